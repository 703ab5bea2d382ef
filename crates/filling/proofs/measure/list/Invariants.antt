use Prim.Native.Nat.{◌≤◌, ◌*◌}
use mathlib.Core.Path.{◌≡◌}
use Rattle.model.specs.Loops.{sum_below, node}
use Rattle.filling.specs.Short.{node_short_by}
use Rattle.filling.proofs.measure.list.Given as goal

abbrev pub invariant-loop-k : goal.invariant-loop-k
invariant-loop-k l = (l.total ≤ 512 * l.k) × (l.total ≡ sum_below l.k (node (node_short_by l.network.state.now l.network.tables.now)))
