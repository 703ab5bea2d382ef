-- Laws of the length of a list of pieces, by a running total. Assumes nothing.
use Prim.Native.Nat.{ℕ, ◌+◌, ◌-◌, ◌≤◌}
use mathlib.Core.Path.{◌≡◌, refl, sym, ap, ap₂, subst, ◌∙◌}
use mathlib.Core.Bool.{Bool, true, false, cond}
use mathlib.Core.List.{List, [], ◌∷◌}
use native.Mathlib.Nat.{le_antisymm}
use lib.Dec.{eqb}
use lib.ListN.{length}
use native.Mathlib.Omega.{arith}
use Rattle.model.specs.Loops.{join_below, node}
use Rattle.model.specs.Tables.{slot_at}
use Rattle.model.specs.Image.{slot_record}
use Rattle.putting.proofs.Putting.{join_more, before}

module _ (f : ℕ → List ℕ) where
  pub total_none : 0 ≡ length (join_below 0 f)
  unfolding join_below
  total_none = refl

  pub total_goes : (i total r : ℕ) → total ≡ length (join_below i f) → r ≡ length (f i) → total + r ≡ length (join_below (i + 1) f)
  total_goes i total r e q = ap₂ ◌+◌ e q ∙ sym (join_more f i)

  pub total_ends : (n i total : ℕ) → total ≡ length (join_below i f) → i ≤ n → n ≤ i → total ≡ length (join_below n f)
  total_ends n i total e l g = subst (λ (m : ℕ). total ≡ length (join_below m f)) (le_antisymm l g) e

  -- the same of nodes, which are numbered from 1
  pub nodes_total_none : 0 ≡ length (before 1 f)
  unfolding join_below
  nodes_total_none = refl

  pub nodes_total_goes : (x total r : ℕ) → 1 ≤ x → total ≡ length (before x f) → r ≡ length (f x) → total + r ≡ length (before (x + 1) f)
  nodes_total_goes x total r l e q =
      let at : x - 1 + 1 ≡ x = omega arith in
      let next : x - 1 + 1 ≡ x + 1 - 1 = omega arith in
      ap₂ ◌+◌ e (q ∙ ap (λ (y : ℕ). length (f y)) (sym at))
      ∙ sym (join_more (node f) (x - 1))
      ∙ ap (λ (k : ℕ). length (join_below k (node f))) next

  pub nodes_total_ends : (x m total : ℕ) → total ≡ length (before x f) → x ≤ m + 1 → m + 1 ≤ x → total ≡ length (join_below m (node f))
  nodes_total_ends x m total e l g =
      e ∙ ap (λ (k : ℕ). length (join_below k (node f))) (let all : x - 1 ≡ m = omega arith in all)

-- the record of a slot takes 4 bytes or none
pub slot_length : (T : List ℕ) (x i j k r : ℕ) → r ≡ cond (eqb (slot_at T i j k) 0) 0 4 → r ≡ length (slot_record T x i j k)
unfolding slot_record
slot_length T x i j k r e = e ∙ go (eqb (slot_at T i j k) 0)
  where
    go : (b : Bool) → cond b 0 4 ≡ length (cond b [] (x ∷ i ∷ j ∷ slot_at T i j k ∷ []))
    go true = refl
    go false = refl
