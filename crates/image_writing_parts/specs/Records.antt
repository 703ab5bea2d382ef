-- The records of a table T of node x, as the book has them, by the settings b, d and K alone.
use Rattle.std.specs.Prelude.{ℕ, ◌≤◌, cond, List, [], ◌∷◌, eqb, length}
use Rattle.model.specs.Loops.{join_below}
use Rattle.model.specs.Image.{slot_record}

-- the record of a slot that holds u
unfoldable pub slot_of : ℕ → ℕ → ℕ → ℕ → List ℕ
slot_of x i j u = cond (eqb u 0) [] (x ∷ i ∷ j ∷ u ∷ [])

unfoldable pub entry_of : ℕ → List ℕ → ℕ → ℕ → ℕ → List ℕ
entry_of K T x i j = join_below K (slot_record T x i j)

unfoldable pub records_of_level : ℕ → ℕ → List ℕ → ℕ → ℕ → List ℕ
records_of_level b K T x i = join_below b (entry_of K T x i)

unfoldable pub table_records : ℕ → ℕ → ℕ → List ℕ → ℕ → List ℕ
table_records d b K T x = join_below d (records_of_level b K T x)

-- a node's number, its table and settings that can be
pub record Shape (T : List ℕ) (d b K x : ℕ) : Type 0 where
  pub long : 512 ≤ length T
  pub digits : d ≤ 8
  pub base : b ≤ 16
  pub depth : K ≤ 4
  pub node : x ≤ 64
