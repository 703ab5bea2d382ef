-- `bar`: nothing for no pairs, else a space and the marks. Assumes nothing.
use native.Mathlib.Omega.{arith}
use Rattle.replay_survey.proofs.Pieces.{bar_none, bar_put}
use Rattle.replay_survey.proofs.lines.bar.Goals as goal

pub returns-then-count-eq0 : goal.returns-then-count-eq0
returns-then-count-eq0 c =
    record { put = search bar_none; upper_bound = omega arith }

pub returns : goal.returns
returns c =
    record { put = search bar_put; upper_bound = omega arith }
