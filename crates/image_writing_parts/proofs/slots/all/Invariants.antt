use Rattle.model.specs.Image.{node_records}
use Rattle.putting.specs.Put.{Put}
use Rattle.putting.proofs.Putting.{before}
use Rattle.image_writing_parts.proofs.slots.all.Given as goal

abbrev pub invariant-loop-x : goal.invariant-loop-x
invariant-loop-x l = Put l.fn.out l.at (before l.x (node_records l.network.state.now l.network.tables.now)) l.out l.end
