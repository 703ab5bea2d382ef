-- An id of 32 bits has eight places: beyond them its digits are zero, so the book's functions say no more there than at eight.
-- Assumes nothing.
use Prim.Native.Nat.{ℕ, ◌*◌, ◌/◌, ◌^◌, ◌≤◌, ◌<◌, min}
use mathlib.Core.Path.{◌≡◌, sym, ap, ap₂, ◌∙◌}
use mathlib.Core.Logic.{⊎_elim}
use mathlib.Core.Bool.{Bool, true, ◌&&◌}
use native.Mathlib.Nat.{zero-lt-suc, lt_of_lt_of_le, pow-le-pow_right, min-eq_left, min-eq_right, le_of_lt}
use native.Mathlib.Omega.{arith}
use lib.Dec.{eqb}
use Rattle.model.specs.Loops.{all_below}
use Rattle.model.specs.Ids.{digit_of, digit_below, low_digits, valid_id}
use Rattle.model.proofs.Bools.{le_or_lt, same_test}
use Rattle.model.proofs.Ids.{power_bits, digit_above, low_whole, valid_digit, valid_of}

-- what is the same from eight on may be asked at most at eight
cap {ℓ} : {A : Type ℓ} (f : ℕ → A) (d : ℕ) → (8 ≤ d → f 8 ≡ f d) → f (min d 8) ≡ f d
cap f d h = ⊎_elim (λ l. ap f (min-eq_left l)) (λ l. ap f (min-eq_right (le_of_lt l)) ∙ h (le_of_lt l)) (le_or_lt d 8)

module _ (x : ℕ) (short : x < 16 ^ 8) where
  beyond : (i : ℕ) → 8 ≤ i → x < 16 ^ i
  beyond i l = lt_of_lt_of_le short (pow-le-pow_right (zero-lt-suc 15) l)

  pub digit_beyond : (i : ℕ) → 8 ≤ i → digit_of x i ≡ 0
  digit_beyond i l = digit_above x i (beyond i l)

  pub low_cap : (i : ℕ) → low_digits x (min i 8) ≡ low_digits x i
  low_cap i = cap (low_digits x) i (λ l. low_whole x 8 short ∙ sym (low_whole x i (beyond i l)))

  pub valid_cap : (b d : ℕ) → valid_id b (min d 8) x ≡ valid_id b d x
  valid_cap b d = cap (λ (n : ℕ). valid_id b n x) d (λ l. same_test (valid_id b 8 x) (valid_id b d x) (more l) (fewer l))
    where
      fewer : 8 ≤ d → valid_id b d x ≡ true → valid_id b 8 x ≡ true
      fewer l e = valid_of b 8 x (λ k g. valid_digit b d x k e (lt_of_lt_of_le g l)) short

      more : 8 ≤ d → valid_id b 8 x ≡ true → valid_id b d x ≡ true
      more l e = valid_of b d x (λ k g. ⊎_elim (λ m. omega (arith, digit_beyond k m, valid_digit b 8 x 0 e (omega arith))) (valid_digit b 8 x k e) (le_or_lt 8 k)) (beyond d l)

-- ---- the test of `valid_id`: r is what it has found of the digits in p places; where r holds, the bits above decide

pub valid_is : (b d x p : ℕ) (r : Bool) → x < 16 ^ 8 → p ≡ min d 8 → r ≡ all_below p (digit_below b x)
    → (r && eqb (x / 2 ^ (4 * p)) 0) ≡ valid_id b d x
unfolding valid_id
valid_is b d x p r short e h =
    ap₂ (λ (a : Bool) (q : ℕ). a && eqb (x / q) 0) h (sym (power_bits p)) ∙ ap (λ (n : ℕ). valid_id b n x) e ∙ valid_cap x short b d
