-- Appending to an entry of node x's table stores one byte of the table memory. Assumes nothing.
use Prim.Native.Nat.{ℕ, ◌+◌, ◌-◌, ◌*◌, ◌<◌}
use mathlib.Core.Path.{◌≡◌, sym, ap, ◌∙◌}
use mathlib.Core.List.{List}
use native.Mathlib.Omega.{arith}
use lib.ListN.{length, set}
use Rattle.model.specs.Memory.{table_of, with_table}
use Rattle.model.specs.Tables.{entry_size, append}
use Rattle.model.proofs.Memory.{table_set}
use Rattle.tables.specs.Places.{Appends}

module _ (t T : List ℕ) (K x i j u k : ℕ) (a : Appends t K x i j u) (lent : T ≡ table_of t x) (is : k ≡ entry_size K T i j) where
  e : k ≡ entry_size K (table_of t x) i j
  e = is ∙ ap (λ (T : List ℕ). entry_size K T i j) lent

  pub appended : set t (512 * (x - 1) + (64 * i + 4 * j + k)) u ≡ with_table t x (append K (table_of t x) i j u)
  unfolding append
  appended =
      ap (λ (k : ℕ). set t (512 * (x - 1) + (64 * i + 4 * j + k)) u) e
      ∙ sym
      (table_set t x (64 * i + 4 * j + entry_size K (table_of t x) i j) u (omega (arith, a.long, a.first, a.last))
      (omega (arith, a.level, a.digit, a.deep, a.room)))
