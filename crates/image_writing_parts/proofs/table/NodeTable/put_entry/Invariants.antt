use Rattle.model.specs.Loops.{join_below}
use Rattle.model.specs.Image.{slot_record}
use Rattle.putting.specs.Put.{Put}
use Rattle.image_writing_parts.proofs.table.NodeTable.put_entry.Given as goal

abbrev pub invariant-loop-k : goal.invariant-loop-k
invariant-loop-k l = Put l.fn.out l.at (join_below l.k (slot_record l.self.slots.now l.self.node l.i l.j)) l.out l.end
