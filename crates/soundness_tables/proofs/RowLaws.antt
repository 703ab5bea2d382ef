-- Laws of a level as the code makes it: what the low i + 1 digits of a qualified id are. Assumes nothing.
use Prim.Native.Nat.{ℕ, suc, ◌+◌, ◌*◌, ◌/◌, ◌%◌, ◌^◌, ◌≤◌, ◌<◌, min}
use mathlib.Core.Path.{◌≡◌, sym, ap, ap₂, ◌∙◌}
use mathlib.Core.Bool.{true}
use native.Mathlib.Nat.{add_comm, mul_comm, mul-le-mul, one-mul, pow-le-pow_right, zero-lt-suc, le_of_lt, min-eq_left}
use native.Mathlib.Numerals.{add-one}
use native.Mathlib.Omega.{arith}
use lib.Arith.{digits_div, digits_mod}
use lib.Bits.{bit_and}
use lib.Dec.{eqb}
use lib.Pow.{shl_exact}
use borrow.Author.Tests.{eqb-true, eq-eqb}
use Rattle.model.specs.Ids.{digit_of, low_digits, suffix_mask}
use Rattle.model.specs.Tables.{qualified}
use Rattle.model.proofs.Bools.{same_test, and_left, and_right, and_intro}
use Rattle.model.proofs.Ids.{power_bits, low_suc, mask_low, low_lt}

-- the low i digits of x_id with digit j before them
abbrev ending : ℕ → ℕ → ℕ → ℕ
ending x_id i j = j * 16 ^ i + low_digits x_id i

module _ (x_id y_id i j : ℕ) where
  ends : qualified x_id y_id i j ≡ true → low_digits y_id (suc i) ≡ ending x_id i j
  unfolding qualified
  ends e =
      low_suc y_id i
      ∙ ap₂ (λ (d r : ℕ). d * 16 ^ i + r) (eqb-true (digit_of y_id i) j (and_right (eqb (low_digits y_id i) (low_digits x_id i)) _ e)) (eqb-true _ _ (and_left _ _ e))

  same : low_digits y_id (suc i) ≡ ending x_id i j → digit_of y_id i * 16 ^ i + low_digits y_id i ≡ ending x_id i j
  same e = sym (low_suc y_id i) ∙ e

  of_ending : low_digits y_id (suc i) ≡ ending x_id i j → qualified x_id y_id i j ≡ true
  unfolding qualified
  of_ending e =
      and_intro (eqb (low_digits y_id i) (low_digits x_id i)) (eqb (digit_of y_id i) j)
      (eq-eqb _ _ (sym (digits_mod (digit_of y_id i) (low_lt y_id i)) ∙ ap (λ (n : ℕ). n % 16 ^ i) (same e) ∙ digits_mod j (low_lt x_id i)))
      (eq-eqb _ _ (sym (digits_div (digit_of y_id i) (low_lt y_id i)) ∙ ap (λ (n : ℕ). n / 16 ^ i) (same e) ∙ digits_div j (low_lt x_id i)))

  pub qualified_ends : eqb (low_digits y_id (suc i)) (ending x_id i j) ≡ qualified x_id y_id i j
  qualified_ends = same_test _ _ (λ e. of_ending (eqb-true _ _ e)) (λ e. eq-eqb _ _ (ends e))

-- the code's test: low, weight and mask are those of the level
pub qualified_is : (x_id y_id i j y low weight mask : ℕ) → y ≡ y_id → low ≡ low_digits x_id i → weight ≡ 16 ^ i → mask ≡ suffix_mask (i + 1)
    → eqb (bit_and y mask) (low + weight * j) ≡ qualified x_id y_id i j
qualified_is x_id y_id i j y low weight mask p q w m =
    ap₂ eqb
    (ap₂ bit_and p m ∙ mask_low y_id (i + 1) ∙ ap (low_digits y_id) (add-one i))
    (ap₂ (λ (a b : ℕ). a + b * j) q w ∙ add_comm (low_digits x_id i) (16 ^ i * j) ∙ ap (λ (n : ℕ). n + low_digits x_id i) (mul_comm (16 ^ i) j))
    ∙ qualified_ends x_id y_id i j

-- ---- its parts, as the code makes them, and their bounds

module _ (i : ℕ) (l : i < 8) where
  pub low_made : (id m : ℕ) → m ≡ suffix_mask (min i 8) → bit_and id m ≡ low_digits id i
  low_made id m e = ap (bit_and id) e ∙ mask_low id (min i 8) ∙ ap (low_digits id) (min-eq_left (le_of_lt l))

  pub weight_made : 1 * 2 ^ (4 * i) % 2 ^ 64 ≡ 16 ^ i
  weight_made = shl_exact 1 (4 * i) 64 (omega arith) (omega arith) ∙ one-mul (2 ^ (4 * i)) ∙ sym (power_bits i)

  pub mask_made : (m : ℕ) → m ≡ suffix_mask (min (i + 1) 8) → m ≡ suffix_mask (i + 1)
  mask_made m e = let g : i + 1 ≤ 8 = omega arith in e ∙ ap suffix_mask (min-eq_left g)

  weight_most : 16 ^ i ≤ 268435456
  weight_most = pow-le-pow_right {n = 16} (zero-lt-suc 15) {i = i} {j = 7} (omega arith)

  pub weight_fits : (weight j : ℕ) → weight ≡ 16 ^ i → j < 16 → weight * j ≤ 4294967296
  weight_fits weight j e h =
      let g : weight ≤ 268435456 = omega (arith, weight_most) in
      mul-le-mul {n₁ = weight} {m₁ = j} {n₂ = 268435456} {m₂ = 16} g (le_of_lt h)

  pub low_fits : (id low : ℕ) → low ≡ low_digits id i → low < 268435456
  low_fits id low e = omega (arith, weight_most, low_lt id i)
