use Rattle.model.specs.Loops.{join_below}
use Rattle.putting.specs.Put.{Put}
use Rattle.image_writing_parts.specs.Records.{records_of_level}
use Rattle.image_writing_parts.proofs.table.NodeTable.put.Given as goal

abbrev pub invariant-loop-i : goal.invariant-loop-i
invariant-loop-i l = Put l.fn.out l.at (join_below l.i (records_of_level l.self.base l.self.depth l.self.slots.now l.self.node)) l.out l.end
