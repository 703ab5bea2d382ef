-- The lent memory: document 01, "Identifiers and tables", and the places that docs/MEMORY.md fixes.
-- s is the state, a list of words; t the table memory, a list of bytes; x, y, u, z are node numbers.
use Rattle.std.specs.Prelude.{ℕ, ◌+◌, ◌-◌, ◌*◌, ◌/◌, ◌%◌, ◌^◌, Bool, cond, ◌||◌, List, ◌++◌, get_or, set, take, drop, replicate, eqb}
use Rattle.model.specs.Loops.{count_below, node}

-- state and table memory
pub record Memory : Type 0 where
  pub state : List ℕ
  pub tables : List ℕ

-- the fixed lengths of the state in words and of the table memory in bytes
abbrev pub state_length : ℕ
state_length = 520

abbrev pub tables_length : ℕ
tables_length = 32768

-- words 0 to 3: the settings and the number of nodes
abbrev pub base : List ℕ → ℕ
base s = get_or s 0 0

abbrev pub digits : List ℕ → ℕ
digits s = get_or s 1 0

abbrev pub depth : List ℕ → ℕ
depth s = get_or s 2 0

abbrev pub node_count : List ℕ → ℕ
node_count s = get_or s 3 0

-- a node's record, in words 8x to 8x + 7 for node x: its id, its status, its attach level, the node that it asks (its target), two sets, and two
-- counts (document 02, ticket 3): the copy and wait requests that it has sent, and its notices that were answered
pub record Node : Type 0 where
  pub id : ℕ
  pub status : ℕ
  pub level : ℕ
  pub target : ℕ
  pub pending : ℕ
  pub notified : ℕ
  pub requests : ℕ
  pub notices : ℕ

abbrev pub id_of : List ℕ → ℕ → ℕ
id_of s x = get_or s (8 * x) 0

abbrev pub status_of : List ℕ → ℕ → ℕ
status_of s x = get_or s (8 * x + 1) 0

abbrev pub level_of : List ℕ → ℕ → ℕ
level_of s x = get_or s (8 * x + 2) 0

abbrev pub target_of : List ℕ → ℕ → ℕ
target_of s x = get_or s (8 * x + 3) 0

-- the paper's "asked set": whom x has still to notify
abbrev pub pending_of : List ℕ → ℕ → ℕ
pending_of s x = get_or s (8 * x + 4) 0

-- the paper's "told set": whom x has notified
abbrev pub notified_of : List ℕ → ℕ → ℕ
notified_of s x = get_or s (8 * x + 5) 0

-- how many copy and wait requests x has sent
abbrev pub requests_of : List ℕ → ℕ → ℕ
requests_of s x = get_or s (8 * x + 6) 0

-- how many of x's notices were answered
abbrev pub notices_of : List ℕ → ℕ → ℕ
notices_of s x = get_or s (8 * x + 7) 0

-- node x's record
abbrev pub node_of : List ℕ → ℕ → Node
node_of s x =
    record {
      id = id_of s x;
      status = status_of s x;
      level = level_of s x;
      target = target_of s x;
      pending = pending_of s x;
      notified = notified_of s x;
      requests = requests_of s x;
      notices = notices_of s x;
    }

-- the state with r as node x's record
unfoldable pub with_node : List ℕ → ℕ → Node → List ℕ
with_node s x r =
    set
    (set
    (set
    (set
    (set (set (set (set s (8 * x) r.id) (8 * x + 1) r.status) (8 * x + 2) r.level) (8 * x + 3) r.target)
    (8 * x + 4)
    r.pending)
    (8 * x + 5)
    r.notified)
    (8 * x + 6)
    r.requests)
    (8 * x + 7)
    r.notices

-- the four statuses by their numbers; in system is the paper's "settled"
abbrev pub in_system : ℕ
in_system = 0

abbrev pub copying : ℕ
copying = 1

abbrev pub waiting : ℕ
waiting = 2

abbrev pub notifying : ℕ
notifying = 3

abbrev pub is_in_system : List ℕ → ℕ → Bool
is_in_system s x = eqb (status_of s x) in_system

-- copying or waiting
abbrev pub is_joining : List ℕ → ℕ → Bool
is_joining s x = eqb (status_of s x) copying || eqb (status_of s x) waiting

-- in system or notifying
abbrev pub is_attached : List ℕ → ℕ → Bool
is_attached s x = eqb (status_of s x) in_system || eqb (status_of s x) notifying

-- a set of nodes is a number of 64 bits, in which bit u − 1 stands for node u
unfoldable pub has_node : ℕ → ℕ → Bool
has_node nodes u = eqb (nodes / 2 ^ (u - 1) % 2) 1

unfoldable pub add_node : ℕ → ℕ → ℕ
add_node nodes u = cond (has_node nodes u) nodes (nodes + 2 ^ (u - 1))

unfoldable pub remove_node : ℕ → ℕ → ℕ
remove_node nodes u = cond (has_node nodes u) (nodes - 2 ^ (u - 1)) nodes

-- how many nodes a set has
unfoldable pub set_size : ℕ → ℕ
set_size nodes = count_below 64 (node (has_node nodes))

-- node x's table is one run of the table memory: the 512 bytes from 512 (x − 1) on
abbrev pub table_start : ℕ → ℕ
table_start x = 512 * (x - 1)

unfoldable pub table_of : List ℕ → ℕ → List ℕ
table_of t x = take 512 (drop (table_start x) t)

-- the table memory with T as node x's table
unfoldable pub with_table : List ℕ → ℕ → List ℕ → List ℕ
with_table t x T = take (table_start x) t ++ (T ++ drop (table_start x + 512) t)

-- memory whose first n places are zero, and the places past them as they were
abbrev pub zeroed : ℕ → List ℕ → List ℕ
zeroed n xs = replicate n 0 ++ drop n xs
