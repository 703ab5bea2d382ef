-- What the check of a table cites: its entries, its levels, and the rules as the code asks them, each unused place with the entry or the level that
-- it stands in. s is the state, x the owner, T its table.
use Rattle.std.specs.Prelude.{ℕ, ◌+◌, ◌-◌, ◌*◌, Bool, not, ◌&&◌, ◌||◌, List, eqb, leb, ltb, get_or, take, drop}
use Rattle.model.specs.Loops.{all_below}
use Rattle.model.specs.Memory.{base, digits, depth, node_count}
use Rattle.model.specs.Tables.{slot_at}
use Rattle.model.specs.Nodes.{qualifies}
use Rattle.model.specs.Sound.{may_stand, no_gap_before, slot_differs, owner_first, all_zero}

-- a filled slot
abbrev pub filled_byte : ℕ → Bool
filled_byte w = not (eqb w 0)

abbrev pub slot_filled : List ℕ → ℕ → Bool
slot_filled row p = filled_byte (get_or row p 0)

-- the tests of a filled slot that come after that of its number
abbrev pub filled_sound : List ℕ → ℕ → List ℕ → ℕ → ℕ → ℕ → ℕ → Bool
filled_sound s x T i j k u =
    may_stand s x u && (qualifies s x i j u && (no_gap_before T i j k && all_below k (slot_differs T i j u)))

-- slot k, 0 to 3, is sound, and empty from K on
unfoldable pub slot_exact : List ℕ → ℕ → List ℕ → ℕ → ℕ → ℕ → Bool
slot_exact s x T i j k =
    let u = slot_at T i j k in
    eqb u 0 || (ltb k (depth s) && (leb u (node_count s) && filled_sound s x T i j k u))

unfoldable pub entry_exact : List ℕ → ℕ → List ℕ → ℕ → ℕ → Bool
entry_exact s x T i j = all_below 4 (slot_exact s x T i j)

-- the entries of level i from digit b on are empty
abbrev pub digits_rest_zero : List ℕ → List ℕ → ℕ → Bool
digits_rest_zero s T i = all_zero (take (64 * i + 64 - (64 * i + 4 * base s)) (drop (64 * i + 4 * base s) T))

unfoldable pub level_exact : List ℕ → ℕ → List ℕ → ℕ → Bool
level_exact s x T i = owner_first s x T i && (all_below (base s) (entry_exact s x T i) && digits_rest_zero s T i)

-- the levels from d on are empty
abbrev pub levels_rest_zero : List ℕ → List ℕ → Bool
levels_rest_zero s T = all_zero (take (512 - 64 * digits s) (drop (64 * digits s) T))
