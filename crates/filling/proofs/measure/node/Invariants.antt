use Prim.Native.Nat.{◌≤◌, ◌*◌}
use mathlib.Core.Path.{◌≡◌}
use Rattle.model.specs.Loops.{sum_below}
use Rattle.consistency.specs.NodeSets.{Sharing}
use Rattle.filling.specs.Short.{level_short_by}
use Rattle.filling.proofs.measure.node.Given as goal

abbrev pub invariant-loop-i : goal.invariant-loop-i
invariant-loop-i l = (l.total ≤ 64 * l.i) × Sharing l.network.state.now l.x l.i l.sharing × (l.total ≡ sum_below l.i (level_short_by l.network.state.now l.network.tables.now l.x))
