-- Sets of nodes taken apart: those that an entry does not hold, and the lowest.
use Rattle.std.specs.Prelude.{ℕ, ◌≤◌, ◌<◌, ◌≡◌, true, false, not, ◌&&◌, List}
use Rattle.model.specs.Memory.{has_node}
use Rattle.model.specs.Tables.{holds}

-- R has the nodes of Q that entry (i, j) of the table T does not hold
pub record Rest (K : ℕ) (T : List ℕ) (i j Q R : ℕ) : Type 0 where
  pub is : (y : ℕ) → 1 ≤ y → has_node R y ≡ (has_node Q y && not (holds K T i j y))

-- r is the lowest node of the set R
pub record First (R r : ℕ) : Type 0 where
  pub low : 1 ≤ r
  pub high : r ≤ 64
  pub before : (y : ℕ) → 1 ≤ y → y < r → has_node R y ≡ false
  pub here : has_node R r ≡ true
