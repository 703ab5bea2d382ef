-- What the check of a notifying node cites. s is the state.
use Rattle.std.specs.Prelude.{ℕ, Bool, ◌&&◌, List}
use Rattle.model.specs.Memory.{pending_of, notified_of}
use Rattle.model.specs.Sound.{only_nodes, pending_sound, notified_sound}
use Rattle.model.specs.Nodes.{all_nodes}

-- the clauses of `notifying_sound` on the two sets
abbrev pub sets_sound : List ℕ → ℕ → Bool
sets_sound s x =
    only_nodes s (pending_of s x)
    && (only_nodes s (notified_of s x)
    && (all_nodes s (pending_sound s x) && all_nodes s (notified_sound s x)))
