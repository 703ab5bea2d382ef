use Rattle.model.specs.Loops.{join_below}
use Rattle.putting.specs.Put.{Put}
use Rattle.image_writing_parts.specs.Records.{entry_of}
use Rattle.image_writing_parts.proofs.table.NodeTable.put_level.Given as goal

abbrev pub invariant-loop-j : goal.invariant-loop-j
invariant-loop-j l = Put l.fn.out l.at (join_below l.j (entry_of l.self.depth l.self.slots.now l.self.node l.i)) l.out l.end
