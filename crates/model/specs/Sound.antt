-- Soundness: document 01, "Identifiers and tables", last paragraph, and of the counts document 02, ticket 3; a definition for each clause.
use Rattle.std.specs.Prelude.{ℕ, ◌+◌, ◌-◌, ◌*◌, ◌/◌, ◌%◌, ◌^◌, Bool, cond, not, ◌&&◌, ◌||◌, List, get_or, take, drop, leb, ltb, eqb}
use Rattle.std.specs.List.{list_all}
use Rattle.model.specs.Loops.{all_below}
use Rattle.model.specs.Ids.{settings_in_range, valid_id, digit_of}
use Rattle.model.specs.Memory.{state_length, tables_length, base, digits, depth, node_count, Node, node_of, id_of, status_of, level_of, target_of}
use Rattle.model.specs.Memory.{pending_of, notified_of, requests_of, in_system, copying, waiting, notifying, is_in_system, is_attached, has_node}
use Rattle.model.specs.Memory.{set_size, table_of}
use Rattle.model.specs.Tables.{slot_at, first_of}
use Rattle.model.specs.Nodes.{is_node, suffix_of, qualifies, all_nodes}

-- ---- the number of nodes, and their ids: each is valid and no two are equal

abbrev pub count_in_range : ℕ → Bool
count_in_range n = leb 1 n && leb n 64

abbrev pub has_valid_id : List ℕ → ℕ → Bool
has_valid_id s x = valid_id (base s) (digits s) (id_of s x)

abbrev pub id_differs : List ℕ → ℕ → ℕ → Bool
id_differs s x k = not (eqb (id_of s (k + 1)) (id_of s x))

-- no node before x has its id
unfoldable pub has_new_id : List ℕ → ℕ → Bool
has_new_id s x = all_below (x - 1) (id_differs s x)

-- ---- the tables

-- in x's table stand x and attached nodes: a copying or waiting node is in no table but its own
abbrev pub may_stand : List ℕ → ℕ → ℕ → Bool
may_stand s x u = eqb u x || is_attached s u

abbrev pub slot_differs : List ℕ → ℕ → ℕ → ℕ → ℕ → Bool
slot_differs T i j u e = not (eqb (slot_at T i j e) u)

-- no gap before slot k: it is the first, or the slot before it is filled
abbrev pub no_gap_before : List ℕ → ℕ → ℕ → ℕ → Bool
no_gap_before T i j k = eqb k 0 || not (eqb (slot_at T i j (k - 1)) 0)

-- slot k is empty, or follows a filled one and holds a node that may stand there, is qualified and is in no slot before it
unfoldable pub slot_sound : List ℕ → ℕ → List ℕ → ℕ → ℕ → ℕ → Bool
slot_sound s x T i j k =
    let u = slot_at T i j k in
    eqb u 0
    || (leb u (node_count s)
    && (may_stand s x u && (qualifies s x i j u && (no_gap_before T i j k && all_below k (slot_differs T i j u)))))

-- the K slots of an entry; those behind them are unused places
unfoldable pub entry_sound : List ℕ → ℕ → List ℕ → ℕ → ℕ → Bool
entry_sound s x T i j = all_below (depth s) (slot_sound s x T i j)

unfoldable pub level_sound : List ℕ → ℕ → List ℕ → ℕ → Bool
level_sound s x T i = all_below (base s) (entry_sound s x T i)

-- x is first in its own entry of level i
abbrev pub owner_first : List ℕ → ℕ → List ℕ → ℕ → Bool
owner_first s x T i = eqb (first_of T i (digit_of (id_of s x) i)) x

-- ---- the statuses

-- a node in system: no attach level and no target, and both sets empty
unfoldable pub in_system_sound : List ℕ → ℕ → Bool
in_system_sound s x =
    eqb (level_of s x) 0 && (eqb (target_of s x) 0 && (eqb (pending_of s x) 0 && eqb (notified_of s x) 0))

-- a copying or waiting node: no attach level, and both sets empty
unfoldable pub joining_sound : List ℕ → ℕ → Bool
joining_sound s x = eqb (level_of s x) 0 && (eqb (pending_of s x) 0 && eqb (notified_of s x) 0)

-- a copying node asks a node in system
unfoldable pub copying_sound : List ℕ → ℕ → Bool
copying_sound s x = is_node s (target_of s x) && (is_in_system s (target_of s x) && joining_sound s x)

-- a waiting node asks one in system or notifying
unfoldable pub waiting_sound : List ℕ → ℕ → Bool
waiting_sound s x = is_node s (target_of s x) && (is_attached s (target_of s x) && joining_sound s x)

-- u, if it is in x's pending set, is in system or notifying, shares at least as many digits with x as x's attach level says, is not x and has
-- not been notified
unfoldable pub pending_sound : List ℕ → ℕ → ℕ → Bool
pending_sound s x u =
    not (has_node (pending_of s x) u)
    || (is_attached s u
    && (leb (level_of s x) (suffix_of s x u) && (not (eqb u x) && not (has_node (notified_of s x) u))))

-- u, if it is in x's notified set, is in system or notifying and is not x
unfoldable pub notified_sound : List ℕ → ℕ → ℕ → Bool
notified_sound s x u = not (has_node (notified_of s x) u) || (is_attached s u && not (eqb u x))

-- a set that names no number above the node count
abbrev pub only_nodes : List ℕ → ℕ → Bool
only_nodes s nodes = ltb nodes (2 ^ node_count s)

-- a notifying node: no target, an attach level below d, somebody pending, and in both sets only nodes, each of them one that may be there
unfoldable pub notifying_sound : List ℕ → ℕ → Bool
notifying_sound s x =
    eqb (target_of s x) 0
    && (ltb (level_of s x) (digits s)
    && (ltb 0 (pending_of s x)
    && (only_nodes s (pending_of s x)
    && (only_nodes s (notified_of s x)
    && (all_nodes s (pending_sound s x) && all_nodes s (notified_sound s x))))))

-- the rules of x's status; a number above 3 is no status
unfoldable pub status_sound : List ℕ → ℕ → Bool
status_sound s x =
    eqb (status_of s x) in_system && in_system_sound s x
    || (eqb (status_of s x) copying && copying_sound s x
    || (eqb (status_of s x) waiting && waiting_sound s x || eqb (status_of s x) notifying && notifying_sound s x))

-- ---- the counts

-- how many copy and wait requests x may have sent: while it copies, its common suffix with its target and 1 more; while it waits, 2 more; else d + 1
unfoldable pub request_limit : List ℕ → ℕ → ℕ
request_limit s x =
    cond (eqb (status_of s x) copying) (suffix_of s x (target_of s x) + 1)
    (cond (eqb (status_of s x) waiting) (suffix_of s x (target_of s x) + 2) (digits s + 1))

-- x has sent no more
abbrev pub requests_in_limit : List ℕ → ℕ → Bool
requests_in_limit s x = leb (requests_of s x) (request_limit s x)

-- the answered notices of a record r: of a node in system, at most 62
abbrev pub notices_few : Node → Bool
notices_few r = leb r.notices 62

-- of a notifying node, one less than the nodes it has notified, of which there is at least one
abbrev pub notices_less_one : Node → Bool
notices_less_one r = eqb (r.notices + 1) (set_size r.notified)

-- of a node that has not attached yet, none
abbrev pub no_notices : Node → Bool
no_notices r = eqb r.notices 0

unfoldable pub notices_sound : Node → Bool
notices_sound r =
    cond (eqb r.status in_system) (notices_few r) (cond (eqb r.status notifying) (notices_less_one r) (no_notices r))

-- both counts of x's record
unfoldable pub counts_sound : List ℕ → ℕ → Bool
counts_sound s x = requests_in_limit s x && notices_sound (node_of s x)

-- ---- the places that nothing uses, which are zero

abbrev pub all_zero : List ℕ → Bool
all_zero = list_all (λ w. eqb w 0)

-- place p of a table is a slot below K of an entry with level below d and digit below b
abbrev pub place_used : List ℕ → ℕ → Bool
place_used s p = ltb (p / 64) (digits s) && (ltb (p % 64 / 4) (base s) && ltb (p % 4) (depth s))

abbrev pub place_sound : List ℕ → List ℕ → ℕ → Bool
place_sound s T p = place_used s p || eqb (get_or T p 0) 0

-- words 4 to 7, and the records behind the last node's
unfoldable pub state_rest_zero : List ℕ → Bool
state_rest_zero s =
    all_zero (take 4 (drop 4 s)) && all_zero (take (state_length - (8 * node_count s + 8)) (drop (8 * node_count s + 8) s))

-- the tables behind the last node's
unfoldable pub tables_rest_zero : List ℕ → List ℕ → Bool
tables_rest_zero s t = all_zero (take (tables_length - 512 * node_count s) (drop (512 * node_count s) t))

-- words 4 to 7, and the records and tables behind the last node's
unfoldable pub unused_zero : List ℕ → List ℕ → Bool
unused_zero s t = state_rest_zero s && tables_rest_zero s t

-- ---- the whole

-- the rules for x's table
unfoldable pub table_sound : List ℕ → ℕ → List ℕ → Bool
table_sound s x T =
    all_below (digits s) (level_sound s x T)
    && (all_below (digits s) (owner_first s x T) && all_below 512 (place_sound s T))

abbrev pub has_sound_table : List ℕ → List ℕ → ℕ → Bool
has_sound_table s t x = table_sound s x (table_of t x)

-- a sound state
unfoldable pub sound : List ℕ → List ℕ → Bool
sound s t =
    settings_in_range (base s) (digits s) (depth s)
    && (count_in_range (node_count s)
    && (all_nodes s (has_valid_id s)
    && (all_nodes s (has_new_id s)
    && (all_nodes s (has_sound_table s t)
    && (all_nodes s (status_sound s) && (all_nodes s (counts_sound s) && unused_zero s t))))))
