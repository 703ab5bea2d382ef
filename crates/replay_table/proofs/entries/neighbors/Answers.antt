-- `neighbors`: each turn puts the next slot behind the others. Assumes nothing.
use native.Mathlib.Omega.{arith}
use Rattle.putting.proofs.Putting.{pieces_none, pieces_goes}
use Rattle.replay_table.proofs.entries.neighbors.Goals as goal

pub loop-k-init : goal.loop-k-init
loop-k-init c = (pieces_none _ _ _ (omega arith), omega arith)

pub loop-k-preserved : goal.loop-k-preserved
loop-k-preserved c = (search pieces_goes, omega arith)
