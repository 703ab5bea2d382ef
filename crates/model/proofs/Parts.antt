-- A node's table as the language lends it: the part from `start` to `end` of the table memory, with `end` written as the code has it,
-- `start + 512`; and the table copied out of such a part, or into it. Assumes nothing.
use Prim.Native.Nat.{ℕ, ◌+◌, ◌-◌, ◌≤◌}
use mathlib.Core.Path.{◌≡◌, ap, ap₂, ◌∙◌}
use mathlib.Core.List.{List, ◌++◌, append-nil}
use native.Mathlib.Nat.{add-sub_cancel_left, le_of_eq}
use lib.ListN.{length, take, drop, drop_of_length-le}
use lib.Seq.{take-length, drop-drop}
use Rattle.model.specs.Memory.{table_start, table_of, with_table}
use Rattle.model.proofs.Memory.{table_length}

-- the list s copied over another as long, z
pub copied : (s z r : List ℕ) → length z ≡ length s → r ≡ take (length s) s ++ drop (length s) z → r ≡ s
copied s z r h e =
    e ∙ ap₂ ◌++◌ (take-length s) (drop_of_length-le z (le_of_eq h)) ∙ append-nil s

module _ (t : List ℕ) (x : ℕ) where
  -- lent to be read
  pub part_table : take (table_start x + 512 - table_start x) (drop (table_start x) t) ≡ table_of t x
  unfolding table_of
  part_table = rw add-sub_cancel_left

  -- lent to be written, T being what the borrower left
  pub put_table : (T : List ℕ)
      → take (table_start x) t ++ (T ++ drop (table_start x + 512 - table_start x) (drop (table_start x) t)) ≡ with_table t x T
  unfolding with_table
  put_table T = rw (add-sub_cancel_left, drop-drop)

module _ (t : List ℕ) (x : ℕ) (fits : table_start x + 512 ≤ length t) where
  pub part_table_length : length (take (table_start x + 512 - table_start x) (drop (table_start x) t)) ≡ 512
  part_table_length = ap length (part_table t x) ∙ table_length t x fits

  -- T, a list of 512 bytes, copied over it
  pub copied_out : (T r : List ℕ) → r ≡ T
      → take (table_start x) t ++ (r ++ drop (table_start x + 512 - table_start x) (drop (table_start x) t)) ≡ with_table t x T
  copied_out T r e = put_table t x r ∙ ap (with_table t x) e
