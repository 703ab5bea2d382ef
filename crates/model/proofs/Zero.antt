-- Laws of places that are zero, for words and bytes alike, and of code that gathers places by `or` and asks once at the end. Assumes nothing.
use Prim.Native.Nat.{ℕ, zero, suc, ◌+◌, ◌-◌, ◌≤◌, ◌<◌, suc-le-suc}
use mathlib.Core.Path.{◌≡◌, refl, sym, ap₂, ◌∙◌}
use mathlib.Core.Bool.{Bool, true, ◌&&◌}
use mathlib.Core.List.{List, [], ◌∷◌}
use native.Mathlib.Nat.{zero-lt-suc}
use native.Mathlib.Omega.{arith}
use lib.Bits.{bit_or, or_add_and, and_le_l, and_le_r}
use lib.Dec.{eqb}
use lib.ListN.{length, get_or, take, drop}
use borrow.Author.Tests.{eqb-true, eq-eqb}
use Rattle.model.specs.Loops.{all_below}
use Rattle.model.specs.Sound.{all_zero}
use Rattle.model.proofs.Bools.{same_test, and_left, and_right, and_intro}
use Rattle.model.proofs.Splice.{part_length, part_at}
use Rattle.model.proofs.Loops.{all_step}

-- place i is zero
abbrev pub zero_at : List ℕ → ℕ → Bool
zero_at ws i = eqb (get_or ws i 0) 0

-- ---- all_zero is true exactly when every place is zero

pub zero_at_lem : (ws : List ℕ) → all_zero ws ≡ true → (i : ℕ) → get_or ws i 0 ≡ 0
zero_at_lem [] e zero = refl
zero_at_lem [] e (suc i) = refl
zero_at_lem (w ∷ ws) e zero = eqb-true w 0 (and_left _ _ e)
zero_at_lem (w ∷ ws) e (suc i) = zero_at_lem ws (and_right (eqb w 0) _ e) i

pub zero_of : (ws : List ℕ) → ((i : ℕ) → i < length ws → get_or ws i 0 ≡ 0) → all_zero ws ≡ true
zero_of [] h = refl
zero_of (w ∷ ws) h =
    and_intro (eqb w 0) (all_zero ws) (eq-eqb w 0 (h 0 (zero-lt-suc (length ws)))) (zero_of ws (λ i l. h (suc i) (suc-le-suc l)))

-- the same of a part: its places are a up to e
module _ (ws : List ℕ) (a e : ℕ) (fits : e ≤ length ws) where
  pub part_zero_at : all_zero (take (e - a) (drop a ws)) ≡ true → (p : ℕ) → a ≤ p → p < e → get_or ws p 0 ≡ 0
  part_zero_at z p l h =
      let f : a + (e - a) ≤ length ws = omega arith in
      let w : a + (p - a) ≡ p = omega arith in
      rw w at (rw (part_at a (e - a) ws f (p - a) (omega arith)) at (zero_at_lem (take (e - a) (drop a ws)) z (p - a)))

  pub part_zero_of : a ≤ e → ((p : ℕ) → a ≤ p → p < e → get_or ws p 0 ≡ 0) → all_zero (take (e - a) (drop a ws)) ≡ true
  part_zero_of l h =
      let f : a + (e - a) ≤ length ws = omega arith in
      zero_of (take (e - a) (drop a ws))
      (λ k q.
      let q' : k < e - a = omega (arith, part_length a (e - a) ws f) in
      part_at a (e - a) ws f k q' ∙ h (a + k) (omega arith) (omega arith))

-- ---- gathering by `or`

pub or_zero : (a b : ℕ) → eqb (bit_or a b) 0 ≡ (eqb a 0 && eqb b 0)
or_zero a b =
    same_test (eqb (bit_or a b) 0) (eqb a 0 && eqb b 0) (λ e. both (eqb-true (bit_or a b) 0 e))
    (λ e. none (eqb-true a 0 (and_left _ _ e)) (eqb-true b 0 (and_right (eqb a 0) _ e)))
  where
    both : bit_or a b ≡ 0 → (eqb a 0 && eqb b 0) ≡ true
    both e =
        let p : a ≡ 0 = omega (arith, or_add_and a b, and_le_l a b, and_le_r a b) in
        let q : b ≡ 0 = omega (arith, or_add_and a b, and_le_l a b, and_le_r a b) in and_intro (eqb a 0) (eqb b 0) (eq-eqb a 0 p) (eq-eqb b 0 q)

    none : a ≡ 0 → b ≡ 0 → eqb (bit_or a b) 0 ≡ true
    none p q = eq-eqb (bit_or a b) 0 (omega (arith, or_add_and a b))

-- what is gathered below i is zero exactly when every test below i holds; one place more
pub gather_goes : (i : ℕ) (f : ℕ → Bool) (gathered w : ℕ) → eqb gathered 0 ≡ all_below i f → eqb w 0 ≡ f i
    → eqb (bit_or gathered w) 0 ≡ all_below (i + 1) f
gather_goes i f gathered w e q = or_zero gathered w ∙ ap₂ ◌&&◌ e q ∙ sym (all_step i f)
