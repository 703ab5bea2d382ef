use Rattle.std.proofs.Common.{◌∷◌}
use Rattle.model.specs.Memory.{node_count}
use Rattle.model.specs.Image.{count_bytes}
use Rattle.putting.specs.Put.{Put}
use Rattle.putting.proofs.Putting.{before}
use Rattle.image_writing_parts.proofs.counts.all.Given as goal

abbrev pub invariant-loop-x : goal.invariant-loop-x
invariant-loop-x l = Put l.fn.out l.at (node_count l.network.state.now ∷ before l.x (count_bytes l.network.state.now)) l.out l.end
