use Rattle.std.proofs.Common.{◌+◌, ◌*◌, ◌≤◌}
use Rattle.model.specs.Loops.{join_below}
use Rattle.putting.specs.Put.{Put}
use Rattle.replay_table.specs.TableText.{slot_text}
use Rattle.replay_table.proofs.entries.neighbors.Given as goal

abbrev pub invariant-loop-k : goal.invariant-loop-k
invariant-loop-k l = Put l.fn.out l.at (join_below l.k (slot_text l.table l.i l.j)) l.out l.end × (l.end ≤ l.at + 21 * l.k)
