-- The state with both counts of every node at zero, word by word. Assumes nothing.
use Prim.Native.Nat.{ℕ, zero, suc, ◌+◌, ◌*◌, ◌<◌}
use mathlib.Core.Path.{◌≡◌, refl, sym, ap, ◌∙◌}
use mathlib.Core.Logic.{◌≢◌, ◌⊎◌, inl, inr, ⊎_elim}
use mathlib.Core.List.{List}
use native.Mathlib.Decide.{ℕ_discrete}
use native.Mathlib.Omega.{arith}
use lib.ListN.{length, get_or, set, length-set}
use lib.Seq.{set-get_or, get_or-set_same, get_or-set_other}
use Rattle.model.specs.Loops.{each_below}
use Rattle.model.specs.Memory.{node_count}
use Rattle.model.specs.Image.{zero_counts, without_counts}
use Rattle.model.proofs.Loops.{each_keeps}
use Rattle.model.proofs.Status.{IsNode}
use Rattle.model.proofs.NodeCounts.{Fresh}

-- word p is a count of node k + 1
abbrev pub IsCount : ℕ → ℕ → Type 0
IsCount k p = (p ≡ 8 * (k + 1) + 6) ⊎ (p ≡ 8 * (k + 1) + 7)

module _ (s : List ℕ) where
  lengths : (n : ℕ) → length (each_below n zero_counts s) ≡ length s
  lengths n =
      each_keeps (λ (l : List ℕ). length l ≡ length s) n zero_counts s refl
      (λ k l h e. length-set (set l (8 * (k + 1) + 6) 0) (8 * (k + 1) + 7) 0 ∙ length-set l (8 * (k + 1) + 6) 0 ∙ e)

  pub without_length : length (without_counts s) ≡ length s
  unfolding without_counts
  without_length = lengths (node_count s)

  -- a word that is no count is as it was
  pub without_kept : (p : ℕ) → ((k : ℕ) → k < node_count s → IsCount k p → ⊥) → get_or (without_counts s) p 0 ≡ get_or s p 0
  unfolding without_counts
  without_kept p h =
      each_keeps (λ (l : List ℕ). get_or l p 0 ≡ get_or s p 0) (node_count s) zero_counts s refl
      (λ k l m e.
      get_or-set_other (set l (8 * (k + 1) + 6) 0) (8 * (k + 1) + 7) p 0 0 (λ q. h k m (inr q))
      ∙ get_or-set_other l (8 * (k + 1) + 6) p 0 0 (λ q. h k m (inl q))
      ∙ e)

  -- a count is zero
  cleared : (n k p : ℕ) → k < n → IsCount k p → p < length s → get_or (each_below n zero_counts s) p 0 ≡ 0
  unfolding each_below
  cleared zero k p l i f = absurd (omega arith)
  cleared (suc n) k p l i f = go (cleared n k p) (ℕ_discrete k n)
    where
      u : List ℕ
      u = each_below n zero_counts s

      here : k ≡ n → IsCount k p → get_or (zero_counts n (each_below n zero_counts s)) p 0 ≡ 0
      here e (inr q) =
          ap (λ (p : ℕ). get_or (zero_counts n u) p 0) (q ∙ ap (λ (k : ℕ). 8 * (k + 1) + 7) e)
          ∙ get_or-set_same (set u (8 * (n + 1) + 6) 0) (8 * (n + 1) + 7) 0 0 (omega (arith, length-set u (8 * (n + 1) + 6) 0, lengths n))
      here e (inl q) =
          ap (λ (p : ℕ). get_or (zero_counts n u) p 0) (q ∙ ap (λ (k : ℕ). 8 * (k + 1) + 6) e)
          ∙ get_or-set_other (set u (8 * (n + 1) + 6) 0) (8 * (n + 1) + 7) (8 * (n + 1) + 6) 0 0 (omega arith)
          ∙ get_or-set_same u (8 * (n + 1) + 6) 0 0 (omega (arith, lengths n))

      apart : k ≢ n → (p ≢ 8 * (n + 1) + 6) × (p ≢ 8 * (n + 1) + 7)
      apart e = (λ q. e (⊎_elim (λ g. omega arith) (λ g. omega arith) i), λ q. e (⊎_elim (λ g. omega arith) (λ g. omega arith) i))

      go : (k < n → IsCount k p → p < length s → get_or (each_below n zero_counts s) p 0 ≡ 0) → Dec (k ≡ n)
          → get_or (zero_counts n (each_below n zero_counts s)) p 0 ≡ 0
      go rest (yes e) = here e i
      go rest (no e) =
          get_or-set_other (set u (8 * (n + 1) + 6) 0) (8 * (n + 1) + 7) p 0 0 (apart e).1
          ∙ get_or-set_other u (8 * (n + 1) + 6) p 0 0 (apart e).0
          ∙ rest (omega arith) i f

  pub without_zero : (k p : ℕ) → k < node_count s → IsCount k p → p < length s → get_or (without_counts s) p 0 ≡ 0
  unfolding without_counts
  without_zero = cleared (node_count s)

  -- where nothing is counted, nothing changes
  pub without_same : ((x : ℕ) → IsNode s x → Fresh s x) → without_counts s ≡ s
  unfolding without_counts
  without_same h =
      each_keeps (λ (l : List ℕ). l ≡ s) (node_count s) zero_counts s refl
      (λ k l m e.
      let f : Fresh s (k + 1) = h (k + 1) (record { low = omega arith; high = omega (arith, m) }) in
      ap (zero_counts k) e
      ∙ ap (λ (u : List ℕ). set u (8 * (k + 1) + 7) 0) (stays (8 * (k + 1) + 6) f.0)
      ∙ stays (8 * (k + 1) + 7) f.1)
    where
      stays : (p : ℕ) → get_or s p 0 ≡ 0 → set s p 0 ≡ s
      stays p e = ap (set s p) (sym e) ∙ set-get_or s p 0
