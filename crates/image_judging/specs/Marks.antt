-- The marks of own entries: one byte for each node and level, 1 where a record of the node's own entry of that level is read.
-- im is the image.
use Rattle.std.specs.Prelude.{ℕ, ◌+◌, ◌-◌, ◌*◌, ◌≤◌, ◌<◌, ◌≡◌, Bool, cond, List, length, get_or, set, eqb}
use Rattle.model.specs.Loops.{all_below, any_below}
use Rattle.model.specs.Image.{rec_of_own}
use Rattle.image_fields.specs.declared.record.Record.{Record}

-- where the mark of node x and level i stands
abbrev pub own_place : ℕ → ℕ → ℕ
own_place x i = 8 * (x - 1) + i

-- it is set
unfoldable pub is_marked : List ℕ → ℕ → ℕ → Bool
is_marked marks x i = eqb (get_or marks (own_place x i) 0) 1

-- every level of x is marked
unfoldable pub levels_marked : List ℕ → ℕ → ℕ → Bool
levels_marked marks d x = all_below d (is_marked marks x)

-- the mark of a record, if it is of an own entry
unfoldable pub marked_by : Record → Bool → List ℕ → List ℕ
marked_by e own marks = cond own (set marks (own_place e.node e.level) 1) marks

-- the marks of the first r records
pub record Marks (im : List ℕ) (r : ℕ) (marks : List ℕ) : Type 0 where
  pub whole : length marks ≡ 512
  pub marked : (x i : ℕ) → 1 ≤ x → x ≤ 64 → i < 8 → is_marked marks x i ≡ any_below r (rec_of_own im x i)
