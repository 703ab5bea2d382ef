-- `having::note`: a turn is the definition's step. Assumes nothing.
use Rattle.model.proofs.Loops.{each_loop}
use Rattle.consistency.proofs.Gathering.{note_step}
use Rattle.consistency.proofs.having.note.Goals as goal

pub loop-i-init : goal.loop-i-init
loop-i-init c = search each_loop

pub loop-i-preserved : goal.loop-i-preserved
loop-i-preserved c = search (each_loop, note_step)
