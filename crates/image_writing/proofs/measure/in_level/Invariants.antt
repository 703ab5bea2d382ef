use Rattle.std.proofs.Common.{◌≡◌, ◌≤◌, ◌*◌, length}
use Rattle.model.specs.Loops.{join_below}
use Rattle.image_writing_parts.specs.Records.{entry_of}
use Rattle.image_writing.proofs.measure.in_level.Given as goal

abbrev pub invariant-loop-j : goal.invariant-loop-j
invariant-loop-j l = (l.total ≤ 16 * l.j) × (l.total ≡ length (join_below l.j (entry_of l.table.depth l.table.slots.now l.table.node l.i)))
