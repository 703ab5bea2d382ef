-- `unknown`: two pieces. Assumes nothing.
use native.Mathlib.Omega.{arith}
use Rattle.replay.proofs.Turns.{unknown_put}
use Rattle.replay.proofs.said.unknown.Goals as goal

pub returns : goal.returns
returns c =
    record { put = search unknown_put; upper_bound = omega (arith, c.piece.ensures.ends) }
