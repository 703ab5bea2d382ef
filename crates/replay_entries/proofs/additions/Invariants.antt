use Prim.Native.Nat.{◌*◌, ◌≤◌}
use Rattle.model.specs.Loops.{join_below}
use Rattle.putting.specs.Put.{Put}
use Rattle.replay_entries.specs.EntryText.{addition_at}
use Rattle.replay_entries.proofs.additions.Given as goal

abbrev pub invariant-loop-k : goal.invariant-loop-k
invariant-loop-k l = record { put : Put l.initial.out 0 (join_below l.k (addition_at l.list)) l.out l.end; few : l.end ≤ 90 * l.k }
