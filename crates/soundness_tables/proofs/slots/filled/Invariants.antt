use Rattle.std.proofs.Common.{◌≡◌, ◌≤◌}
use Rattle.model.specs.Loops.{count_below}
use Rattle.soundness_tables.specs.TableFacts.{slot_filled}
use Rattle.soundness_tables.proofs.slots.filled.Given as goal

abbrev pub invariant-loop-slot : goal.invariant-loop-slot
invariant-loop-slot l = (l.count ≡ count_below l.slot-index (slot_filled l.level)) × (l.count ≤ l.slot-index)
