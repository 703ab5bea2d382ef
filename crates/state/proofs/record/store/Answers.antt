-- `store`: the eight writes are those of `with_node`, in its order; none changes the length. Assumes nothing.
use mathlib.Core.Path.{refl}
use Rattle.model.specs.Memory.{with_node}
use Rattle.state.proofs.record.store.Goals as goal

pub returns : goal.returns
unfolding with_node
returns c = refl
