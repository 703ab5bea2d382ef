-- `filled`: the loop's invariant is the count of the filled slots so far. Assumes nothing.
use Rattle.std.proofs.Common.{sym, arith}
use Rattle.model.proofs.Loops.{count_zero}
use Rattle.soundness_tables.proofs.AloneLaws.{count_goes}
use Rattle.soundness_tables.proofs.slots.filled.Goals as goal

pub loop-slot-init : goal.loop-slot-init
loop-slot-init c = (sym (count_zero _), omega arith)

pub loop-slot-preserved : goal.loop-slot-preserved
loop-slot-preserved c =
    let l = c.loop-slot in
    (count_goes l.slot-index _ l.count c.one-count.result l.invariant.0 c.one-count.ensures.count, omega arith)
