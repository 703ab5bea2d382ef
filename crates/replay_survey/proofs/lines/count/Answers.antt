-- `count`: four pieces. Assumes nothing.
use native.Mathlib.Omega.{arith}
use Rattle.replay_survey.proofs.Pieces.{count_put}
use Rattle.replay_survey.proofs.lines.count.Goals as goal

pub returns : goal.returns
returns c =
    record { put = search count_put; upper_bound = omega arith }
