use Rattle.model.specs.Image.{id_bytes}
use Rattle.putting.specs.Put.{Put}
use Rattle.putting.proofs.Putting.{before}
use Rattle.image_writing_parts.proofs.ids.all.Given as goal

abbrev pub invariant-loop-x : goal.invariant-loop-x
invariant-loop-x l = Put l.fn.out l.at (before l.x (id_bytes l.network.state.now)) l.out l.end
