-- What the deliveries ask: x sends to y. s is the state, t the table memory.
use Rattle.std.specs.Prelude.{ℕ, ◌^◌, ◌≤◌, ◌<◌, ◌≡◌, ◌≢◌, true, List, length, get_or}
use Rattle.model.specs.Memory.{depth, node_count, id_of, is_attached, table_of, with_table, state_length, tables_length}
use Rattle.model.specs.Nodes.{suffix_of}
use Rattle.model.specs.Learning.{learn, learn_table}
use Rattle.model.proofs.Status.{IsNode}
use Rattle.model.proofs.Sound.{Sound}

-- a sound state, and two of its nodes, the receiver attached
pub record Delivers (s t : List ℕ) (x y : ℕ) : Type 0 where
  pub sound : Sound s t
  pub sender : IsNode s x
  pub receiver : IsNode s y
  pub attached : is_attached s y ≡ true
  pub other : y ≢ x

-- a state whose nodes can be read and have different ids
pub record Network (s : List ℕ) : Type 0 where
  pub long : state_length ≤ length s
  pub few : node_count s ≤ 64
  pub deep : depth s ≤ 4
  pub ids : (u : ℕ) → IsNode s u → id_of s u < 2 ^ 32
  pub apart : (z u : ℕ) → IsNode s z → IsNode s u → u ≢ z → suffix_of s z u < 8

-- a table in which nodes stand
pub record NodesIn (s T : List ℕ) : Type 0 where
  pub long : length T ≡ 512
  pub at : (p : ℕ) → p < 512 → get_or T p 0 ≢ 0 → IsNode s (get_or T p 0)

-- x and y can learn from each other, also while the step goes on and the state is not yet sound again
pub record Meets (s t : List ℕ) (x y : ℕ) : Type 0 where
  pub network : Network s
  pub tables : tables_length ≤ length t
  pub sender : IsNode s x
  pub receiver : IsNode s y
  pub other : y ≢ x
  pub own : NodesIn s (table_of t x)
  pub theirs : NodesIn s (table_of t y)

-- x can gather from z's table
pub record Gathers (s t : List ℕ) (x z : ℕ) : Type 0 where
  pub network : Network s
  pub tables : tables_length ≤ length t
  pub sender : IsNode s x
  pub owner : IsNode s z
  pub nodes : NodesIn s (table_of t z)

-- the table memory after x has learned y's table, and y has learned x
abbrev pub exchanged : List ℕ → List ℕ → ℕ → ℕ → List ℕ
exchanged s t x y = with_table (with_table t y (learn s y x (table_of t y))) x (learn_table s x (table_of t y) (table_of t x))

-- and after y has learned x, and x then y's table
abbrev pub notified_tables : List ℕ → List ℕ → ℕ → ℕ → List ℕ
notified_tables s t x y =
    with_table (with_table t y (learn s y x (table_of t y))) x (learn_table s x (learn s y x (table_of t y)) (table_of t x))

-- level i of a table T of a node of s
pub record Level (s T : List ℕ) (i : ℕ) : Type 0 where
  pub long : 512 ≤ length T
  pub deep : depth s ≤ 4
  pub level : i < 8
