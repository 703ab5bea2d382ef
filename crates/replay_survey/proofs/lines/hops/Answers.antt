-- `hops`: each turn puts the next line behind the others. Assumes nothing.
use native.Mathlib.Omega.{arith}
use Rattle.putting.proofs.Putting.{pieces_none, pieces_goes}
use Rattle.replay_survey.proofs.lines.hops.Goals as goal

pub loop-k-init : goal.loop-k-init
loop-k-init c = record { put = pieces_none _ _ _ (omega arith); few = omega arith }

pub loop-k-preserved : goal.loop-k-preserved
loop-k-preserved c = record { put = search pieces_goes; few = omega arith }
