use Rattle.std.proofs.Common.{◌≡◌, ◌≤◌, ◌-◌, ◌*◌, length}
use Rattle.model.specs.Image.{node_records}
use Rattle.putting.proofs.Putting.{before}
use Rattle.image_writing.proofs.measure.records.Given as goal

abbrev pub invariant-loop-x : goal.invariant-loop-x
invariant-loop-x l = (l.total ≤ 2048 * (l.x - 1)) × (l.total ≡ length (before l.x (node_records l.network.state.now l.network.tables.now)))
