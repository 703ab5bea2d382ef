use Rattle.std.proofs.Common.{◌+◌, ◌*◌, ◌≤◌}
use Rattle.model.specs.Loops.{join_below}
use Rattle.putting.specs.Put.{Put}
use Rattle.replay_table.specs.TableText.{entry_text}
use Rattle.replay_table.proofs.entries.level.Given as goal

abbrev pub invariant-loop-j : goal.invariant-loop-j
invariant-loop-j l = Put l.fn.out l.at (join_below l.j (entry_text l.depth l.table l.i)) l.out l.end × (l.end ≤ l.at + 122 * l.j)
