use Rattle.std.proofs.Common.{◌≡◌, ◌≤◌, ◌-◌}
use Rattle.model.specs.Loops.{count_below, node}
use Rattle.model.specs.Image.{under_way}
use Rattle.image_writing.proofs.measure.joins.Given as goal

abbrev pub invariant-loop-x : goal.invariant-loop-x
invariant-loop-x l = (l.count ≤ l.x - 1) × (l.count ≡ count_below (l.x - 1) (node (under_way l.network.state.now)))
