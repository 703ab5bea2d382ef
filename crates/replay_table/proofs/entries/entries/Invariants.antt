use Rattle.std.proofs.Common.{◌+◌, ◌*◌, ◌≤◌}
use Rattle.model.specs.Loops.{join_below}
use Rattle.putting.specs.Put.{Put}
use Rattle.replay_table.specs.TableText.{level_text}
use Rattle.replay_table.proofs.entries.entries.Given as goal

abbrev pub invariant-loop-i : goal.invariant-loop-i
invariant-loop-i l = Put l.fn.out l.at (join_below l.i (level_text l.base l.depth l.table)) l.out l.end × (l.end ≤ l.at + 1952 * l.i)
