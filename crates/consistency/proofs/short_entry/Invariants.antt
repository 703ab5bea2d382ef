use Rattle.std.proofs.Common.{◌≤◌}
use Rattle.model.specs.Loops.{first_below}
use Rattle.model.specs.Memory.{digits}
use Rattle.model.specs.Consistency.{level_short}
use Rattle.consistency.specs.NodeSets.{Sharing}
use Rattle.consistency.proofs.short_entry.Given as goal

abbrev pub invariant-loop-i : goal.invariant-loop-i
invariant-loop-i l = record {
  sharing : Sharing l.network.state.now l.x l.i l.sharing;
  whole : l.i ≤ first_below (digits l.network.state.now) (level_short l.network.state.now l.network.tables.now l.x);
}
