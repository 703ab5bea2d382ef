-- The loop over the tables past the last node's: s is the state, t the table memory, k the table that the loop has come to, r what the code found
-- of it. Assumes nothing.
use Prim.Native.Nat.{ℕ, ◌+◌, ◌-◌, ◌*◌, ◌≤◌, ◌<◌}
use mathlib.Core.Path.{◌≡◌, sym, ◌∙◌}
use mathlib.Core.Logic.{⊎_elim}
use mathlib.Core.Bool.{Bool, true, false}
use mathlib.Core.List.{List}
use native.Mathlib.Omega.{arith}
use lib.ListN.{length, get_or, take, drop}
use Rattle.model.specs.Memory.{node_count, tables_length}
use Rattle.model.specs.Sound.{all_zero, tables_rest_zero}
use Rattle.model.proofs.Bools.{is_false, not_both, le_or_lt}
use Rattle.model.proofs.Zero.{part_zero_at, part_zero_of}

-- the bytes of the tables n up to k are zero
abbrev pub ZeroUpTo : List ℕ → ℕ → ℕ → Type 0
ZeroUpTo t n k = (p : ℕ) → 512 * n ≤ p → p < 512 * k → get_or t p 0 ≡ 0

pub past_none : (t : List ℕ) (n k : ℕ) → k ≤ n → ZeroUpTo t n k
past_none t n k e p l h = absurd (omega arith)

module _ (s t : List ℕ) (k : ℕ) (long : tables_length ≤ length t) (l : node_count s ≤ k) (g : k < 64) (r : Bool)
    (e : r ≡ all_zero (take (512 * k + 512 - 512 * k) (drop (512 * k) t))) where
  pub past_goes : ZeroUpTo t (node_count s) k → r ≡ true → ZeroUpTo t (node_count s) (k + 1)
  past_goes z h p a b =
      ⊎_elim (λ f. part_zero_at t (512 * k) (512 * k + 512) (omega arith) (sym e ∙ h) p f (omega arith)) (λ f. z p a f) (le_or_lt (512 * k) p)

  pub past_leaves : r ≡ false → false ≡ tables_rest_zero s t
  unfolding tables_rest_zero
  past_leaves h =
      is_false _
      (λ z. not_both r
      (e ∙ part_zero_of t (512 * k) (512 * k + 512) (omega arith) (omega arith) (λ p a b. part_zero_at t (512 * node_count s) tables_length long z p (omega arith) (omega arith)))
      h)

pub past_ends : (s t : List ℕ) (k : ℕ) → tables_length ≤ length t → node_count s ≤ 64 → 64 ≤ k → ZeroUpTo t (node_count s) k
    → true ≡ tables_rest_zero s t
unfolding tables_rest_zero
past_ends s t k long l g z =
    sym (part_zero_of t (512 * node_count s) tables_length long (omega arith) (λ p a b. z p a (omega arith)))
