use Rattle.std.proofs.Common.{◌≡◌, ◌≤◌, ◌*◌, length}
use Rattle.model.specs.Loops.{join_below}
use Rattle.model.specs.Image.{slot_record}
use Rattle.image_writing.proofs.measure.in_entry.Given as goal

abbrev pub invariant-loop-k : goal.invariant-loop-k
invariant-loop-k l = (l.total ≤ 4 * l.k) × (l.total ≡ length (join_below l.k (slot_record l.table.slots.now l.table.node l.i l.j)))
