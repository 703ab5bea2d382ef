-- `hop`: three pieces. Assumes nothing.
use native.Mathlib.Omega.{arith}
use borrow.Author.Rules.{rules}
use Rattle.replay_survey.proofs.Pairs.{share_of}
use Rattle.replay_survey.proofs.Pieces.{hop_put}
use Rattle.replay_survey.proofs.lines.hop.Goals as goal

pub count-requires : goal.count-requires
count-requires c =
    let p = c.requires in
    record { share = share_of _ _ _ (omega arith) p.pairs; at_in_bounds = search rules }

pub returns : goal.returns
returns c =
    record { put = search hop_put; upper_bound = omega arith }
