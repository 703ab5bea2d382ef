use Prim.Native.Nat.{◌≤◌, ◌*◌}
use mathlib.Core.Path.{◌≡◌}
use Rattle.model.specs.Loops.{sum_below}
use Rattle.model.specs.Fill.{short_by}
use Rattle.filling.proofs.measure.level.Given as goal

abbrev pub invariant-loop-j : goal.invariant-loop-j
invariant-loop-j l = (l.total ≤ 4 * l.j) × (l.total ≡ sum_below l.j (short_by l.network.state.now l.network.tables.now l.x l.i))
