-- `having::having`: after k turns the sets are those of the first k nodes. Assumes nothing.
use Rattle.std.proofs.Common.{arith}
use Rattle.consistency.proofs.Gathering.{having_start, having_goes}
use Rattle.consistency.proofs.having.having.Goals as goal

pub loop-k-init : goal.loop-k-init
loop-k-init c = search having_start

pub loop-k-preserved : goal.loop-k-preserved
loop-k-preserved c =
    let l = c.loop-k in
    having_goes _ l.k l.sets l.invariant c.requires.digits _ _ _ c.load-s.ensures.digits c.id.ensures c.note.ensures (omega (arith, c.requires.few))
