-- What the parts of the whole check cite. s is the state, t the table memory.
use Rattle.std.specs.Prelude.{ℕ, Bool, ◌&&◌, List}
use Rattle.model.specs.Sound.{has_valid_id, has_new_id, has_sound_table, status_sound, counts_sound, unused_zero}
use Rattle.model.specs.Nodes.{all_nodes}

-- the clauses of `sound` after that of the valid ids
abbrev pub checked_sound : List ℕ → List ℕ → Bool
checked_sound s t =
    all_nodes s (has_new_id s)
    && (all_nodes s (has_sound_table s t)
    && (all_nodes s (status_sound s) && (all_nodes s (counts_sound s) && unused_zero s t)))

-- the clauses of `sound` after the settings and the count
abbrev pub nodes_sound : List ℕ → List ℕ → Bool
nodes_sound s t = all_nodes s (has_valid_id s) && checked_sound s t
