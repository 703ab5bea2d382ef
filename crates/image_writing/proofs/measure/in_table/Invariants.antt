use Rattle.std.proofs.Common.{◌≡◌, ◌≤◌, ◌*◌, length}
use Rattle.model.specs.Loops.{join_below}
use Rattle.image_writing_parts.specs.Records.{records_of_level}
use Rattle.image_writing.proofs.measure.in_table.Given as goal

abbrev pub invariant-loop-i : goal.invariant-loop-i
invariant-loop-i l = (l.total ≤ 256 * l.i) × (l.total ≡ length (join_below l.i (records_of_level l.table.base l.table.depth l.table.slots.now l.table.node)))
