-- Entries of a table: document 01, "Identifiers and tables", second paragraph. T is the 512 bytes of one node's table; an entry (i, j) has a
-- level i below d and a digit j below b.
use Rattle.std.specs.Prelude.{ℕ, ◌+◌, ◌*◌, Bool, ◌&&◌, List, get_or, set, take, drop, replicate, eqb}
use Rattle.model.specs.Loops.{any_below, first_below, each_below}
use Rattle.model.specs.Ids.{digit_of, low_digits}

-- y is qualified for entry (i, j) of x, by their ids: y ends in the low i digits of x, and j is the digit before them
unfoldable pub qualified : ℕ → ℕ → ℕ → ℕ → Bool
qualified x_id y_id i j = eqb (low_digits y_id i) (low_digits x_id i) && eqb (digit_of y_id i) j

-- the place of slot k, from 0 to 3, of entry (i, j) within the table; an empty slot holds 0
abbrev pub slot_place : ℕ → ℕ → ℕ → ℕ
slot_place i j k = 64 * i + 4 * j + k

abbrev pub slot_at : List ℕ → ℕ → ℕ → ℕ → ℕ
slot_at T i j k = get_or T (slot_place i j k) 0

abbrev pub slot_is : List ℕ → ℕ → ℕ → ℕ → ℕ → Bool
slot_is T i j u k = eqb (slot_at T i j k) u

-- how many nodes an entry of depth K holds: the slots before its first empty one
unfoldable pub entry_size : ℕ → List ℕ → ℕ → ℕ → ℕ
entry_size K T i j = first_below K (slot_is T i j 0)

-- the nodes of an entry, in the order of its slots
unfoldable pub entry : ℕ → List ℕ → ℕ → ℕ → List ℕ
entry K T i j = take (entry_size K T i j) (drop (slot_place i j 0) T)

-- the first node of an entry: the one in slot 0; 0 where the entry is empty
abbrev pub first_of : List ℕ → ℕ → ℕ → ℕ
first_of T i j = slot_at T i j 0

-- node u stands in the entry
unfoldable pub holds : ℕ → List ℕ → ℕ → ℕ → ℕ → Bool
holds K T i j u = any_below K (slot_is T i j u)

-- u behind the nodes of the entry
unfoldable pub append : ℕ → List ℕ → ℕ → ℕ → ℕ → List ℕ
append K T i j u = set T (slot_place i j (entry_size K T i j)) u

abbrev pub own_slot : ℕ → ℕ → ℕ → List ℕ → List ℕ
own_slot x_id x i T = set T (slot_place i (digit_of x_id i) 0) x

-- the own entries of x are those of its own digits, (i, digit i of x): the table in which x is first in each of them and nothing else stands
unfoldable pub own_table : ℕ → ℕ → ℕ → List ℕ
own_table d x_id x = each_below d (own_slot x_id x) (replicate 512 0)
