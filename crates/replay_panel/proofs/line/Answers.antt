-- `line`: the node's number and its record. Assumes nothing.
use native.Mathlib.Omega.{arith}
use Rattle.replay_panel.proofs.Pieces.{node_put}
use Rattle.replay_panel.proofs.line.Goals as goal

pub returns : goal.returns
returns c =
    record { put = search node_put; upper_bound = omega arith }
