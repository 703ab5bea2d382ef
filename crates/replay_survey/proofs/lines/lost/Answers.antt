-- `lost`: two pieces. Assumes nothing.
use native.Mathlib.Omega.{arith}
use borrow.Author.Rules.{rules}
use Rattle.replay_survey.proofs.Pairs.{share_of}
use Rattle.replay_survey.proofs.Pieces.{lost_put}
use Rattle.replay_survey.proofs.lines.lost.Goals as goal

pub count-requires : goal.count-requires
count-requires c =
    record { share = share_of _ _ _ (omega arith) c.requires.pairs; at_in_bounds = search rules }

pub returns : goal.returns
returns c =
    record { put = search lost_put; upper_bound = omega arith }
