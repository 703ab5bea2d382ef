use Rattle.std.proofs.Common.{◌∷◌}
use Rattle.model.specs.Nodes.{count_nodes}
use Rattle.model.specs.Image.{under_way, join_bytes}
use Rattle.putting.specs.Put.{Put}
use Rattle.putting.proofs.Putting.{before}
use Rattle.image_writing_parts.proofs.joins.all.Given as goal

abbrev pub invariant-loop-x : goal.invariant-loop-x
invariant-loop-x l = Put l.fn.out l.at (count_nodes l.network.state.now (under_way l.network.state.now) ∷ before l.x (join_bytes l.network.state.now)) l.out l.end
