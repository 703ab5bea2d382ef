-- Sets of nodes by their ids: who has which digit, who shares the low digits of x, who qualifies for an entry of x. s is the state.
use Rattle.std.specs.Prelude.{ℕ, ◌+◌, ◌*◌, ◌^◌, ◌≤◌, ◌<◌, ◌≡◌, false, List, eqb, length, get_or, set}
use Rattle.model.specs.Ids.{digit_of, low_digits}
use Rattle.model.specs.Memory.{digits, node_count, id_of, state_length, has_node, add_node}
use Rattle.model.specs.Nodes.{qualifies}
use Rattle.model.proofs.Status.{IsNode}

-- the ids can be read
pub record IdsReadable (s : List ℕ) : Type 0 where
  pub long : state_length ≤ length s
  pub few : node_count s ≤ 64
  pub digits : digits s ≤ 8
  pub ids : (x : ℕ) → IsNode s x → id_of s x < 2 ^ 32

-- where the set for digit j at level i stands
abbrev pub place : ℕ → ℕ → ℕ
place i j = 16 * i + j

-- y with its id noted for its digit i
unfoldable pub note_at : ℕ → ℕ → ℕ → List ℕ → List ℕ
note_at id y i H = set H (place i (digit_of id i)) (add_node (get_or H (place i (digit_of id i)) 0) y)

-- the set at place i j has those of the first k nodes whose digit i is j
pub record Having (s : List ℕ) (k : ℕ) (H : List ℕ) : Type 0 where
  pub long : length H ≡ 128
  pub is : (i j y : ℕ) → i < digits s → j < 16 → 1 ≤ y → y ≤ k → has_node (get_or H (place i j) 0) y ≡ eqb (digit_of (id_of s y) i) j
  pub none : (i j y : ℕ) → i < digits s → j < 16 → k < y → y ≤ 64 → has_node (get_or H (place i j) 0) y ≡ false

-- S has the nodes with the low i digits of x
pub record Sharing (s : List ℕ) (x i S : ℕ) : Type 0 where
  pub is : (y : ℕ) → IsNode s y → has_node S y ≡ eqb (low_digits (id_of s y) i) (low_digits (id_of s x) i)

-- Q has the nodes that qualify for entry (i, j) of x
pub record Qualify (s : List ℕ) (x i j Q : ℕ) : Type 0 where
  pub is : (y : ℕ) → IsNode s y → has_node Q y ≡ qualifies s x i j y
  pub none : (y : ℕ) → node_count s < y → y ≤ 64 → has_node Q y ≡ false
