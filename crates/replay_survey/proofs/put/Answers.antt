-- `put`: the first line, one for each number of hops, and the lost pairs. Assumes nothing.
use native.Mathlib.Omega.{arith}
use Rattle.replay_survey.proofs.Pieces.{said_put}
use Rattle.replay_survey.proofs.put.Goals as goal

pub returns : goal.returns
returns c =
    record { put = search said_put; upper_bound = omega arith }
