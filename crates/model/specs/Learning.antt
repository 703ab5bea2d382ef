-- Learning: document 01, "The join, step by step", the paragraph on learning. T is the learner's table, which learning gives back changed.
use Rattle.std.specs.Prelude.{ℕ, suc, Bool, cond, not, ◌&&◌, ◌||◌, List, get_or, leb, ltb, eqb}
use Rattle.model.specs.Loops.{each_below}
use Rattle.model.specs.Ids.{digit_of}
use Rattle.model.specs.Memory.{depth, id_of, status_of, level_of, notifying}
use Rattle.model.specs.Tables.{entry_size, holds, append}
use Rattle.model.specs.Nodes.{suffix_of}

-- the floor of u, below which nobody learns it: its attach level while it notifies, 0 once it is in system. (A delivery on a sound state never
-- has a copying or waiting node learned.)
abbrev pub floor_of : List ℕ → ℕ → ℕ
floor_of s u = cond (eqb (status_of s u) notifying) (level_of s u) 0

-- u is not in the entry yet, and the entry is not full
unfoldable pub room_for : ℕ → List ℕ → ℕ → ℕ → ℕ → Bool
room_for K T i j u = not (holds K T i j u) && ltb (entry_size K T i j) K

-- u appended to the entry of its digit at level i, if there is room for it and the level is not below u's floor
unfoldable pub learn_at : List ℕ → ℕ → ℕ → List ℕ → List ℕ
learn_at s u i T =
    let j = digit_of (id_of s u) i in
    cond (leb (floor_of s u) i && room_for (depth s) T i j u) (append (depth s) T i j u) T

-- x learns u, at each level from u's floor up to and with their common suffix
unfoldable pub learn : List ℕ → ℕ → ℕ → List ℕ → List ℕ
learn s x u T = each_below (suc (suffix_of s x u)) (learn_at s u) T

-- x learns the node at place p of the table Y, unless there is none or it is x itself
unfoldable pub learn_place : List ℕ → ℕ → List ℕ → ℕ → List ℕ → List ℕ
learn_place s x Y p T =
    let u = get_or Y p 0 in
    cond (eqb u 0 || eqb u x) T (learn s x u T)

-- x learns the table Y, each node of it but x. The order is that of level, digit and slot, and so that of the places: slot k of entry (i, j) is
-- at 64i + 4j + k.
unfoldable pub learn_table : List ℕ → ℕ → List ℕ → List ℕ → List ℕ
learn_table s x Y T = each_below 512 (learn_place s x Y) T
