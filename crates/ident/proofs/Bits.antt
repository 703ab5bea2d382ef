-- Digits by bits. The low i digits of two ids agree exactly when the low 4i bits of their exclusive or are zero, and a number has that many
-- trailing zeros exactly when its low bits are zero: so both bound the common suffix alike. Assumes nothing.
use Prim.Native.Nat.{ℕ, zero, suc, ◌+◌, ◌*◌, ◌/◌, ◌%◌, ◌^◌, ◌≤◌, ◌<◌, zero-le, suc-le-suc, min}
use mathlib.Core.Path.{◌≡◌, sym, ap, ◌∙◌}
use native.Mathlib.Nat.{mod-one, pow-suc, zero-lt-suc, le_refl, le_antisymm, le-min, min-le_right, not-suc-le-zero, le_of_suc-le-suc, le_of_lt}
use native.Mathlib.Omega.{arith}
use lib.Arith.{mod-mul}
use lib.Pow.{pow_pos}
use lib.Bits.{bit_and, bit_xor, xor_mod, xor_self, xor_add_and, and_le_l, and_le_r}
use lib.Count.{count_trailing_zeros, under}
use lib.Dec.{eqb}
use borrow.Author.Tests.{eqb-true, eq-eqb}
use Rattle.model.specs.Ids.{low_digits, suffix_mask, common_suffix}
use Rattle.model.proofs.Bools.{same_test}
use Rattle.model.proofs.Loops.{le_of_not_lt}
use Rattle.ident.proofs.Places.{low_cap}
use Rattle.model.proofs.Ids.{power_bits, low_whole, mask_low, suffix_le, suffix_low, suffix_of_low}

-- ---- trailing zeros

-- the low j + 1 bits of n are zero exactly when its lowest and the low j of the rest are
mod_suc : (n j : ℕ) → n % 2 ^ suc j ≡ n / 2 % 2 ^ j * 2 + n % 2
mod_suc n j = ap (λ (p : ℕ). n % p) (pow-suc 2 j) ∙ mod-mul n (pow_pos j) (zero-lt-suc 1)

-- j is at most the trailing zeros of a number of k bits exactly when its low j bits are zero
pub trailing_low : (j k n : ℕ) → j ≤ count_trailing_zeros k n → n % 2 ^ j ≡ 0
unfolding count_trailing_zeros
trailing_low zero k n l = mod-one n
trailing_low (suc j) zero n l = absurd (not-suc-le-zero l)
trailing_low (suc j) (suc k) n l = mod_suc n j ∙ go (n % 2) (trailing_low j k (n / 2)) l
  where
    go : (b : ℕ) → (j ≤ count_trailing_zeros k (n / 2) → n / 2 % 2 ^ j ≡ 0) → suc j ≤ under b (count_trailing_zeros k (n / 2)) → n / 2 % 2 ^ j * 2 + b ≡ 0
    go zero h g = let e = h (le_of_suc-le-suc g) in omega arith
    go (suc b) h g = absurd (not-suc-le-zero g)

pub trailing_of_low : (j k n : ℕ) → j ≤ k → n % 2 ^ j ≡ 0 → j ≤ count_trailing_zeros k n
unfolding count_trailing_zeros
trailing_of_low zero k n l e = zero-le
trailing_of_low (suc j) zero n l e = absurd (not-suc-le-zero l)
trailing_of_low (suc j) (suc k) n l e =
    let q = sym (mod_suc n j) ∙ e in
    rw (the_bit q) (suc-le-suc (trailing_of_low j k (n / 2) (le_of_suc-le-suc l) (the_rest q)))
  where
    the_bit : n / 2 % 2 ^ j * 2 + n % 2 ≡ 0 → n % 2 ≡ 0
    the_bit q = omega arith

    the_rest : n / 2 % 2 ^ j * 2 + n % 2 ≡ 0 → n / 2 % 2 ^ j ≡ 0
    the_rest q = omega arith

-- ---- the exclusive or

xor_zero : (a b : ℕ) → bit_xor a b ≡ 0 → a ≡ b
xor_zero a b e = omega (arith, xor_add_and a b, and_le_l a b, and_le_r a b)

low_bits : (x i : ℕ) → low_digits x i ≡ x % 2 ^ (4 * i)
unfolding low_digits
low_bits x i = rw power_bits

xor_low : (x y i : ℕ) → low_digits (bit_xor x y) i ≡ bit_xor (low_digits x i) (low_digits y i)
xor_low x y i = simp low_bits (xor_mod x y (4 * i))

-- no bit differs under i digits exactly when the low i digits agree
pub differ_low : (x y i : ℕ) → low_digits (bit_xor x y) i ≡ 0 → low_digits x i ≡ low_digits y i
differ_low x y i e = xor_zero (low_digits x i) (low_digits y i) (sym (xor_low x y i) ∙ e)

pub differ_of_low : (x y i : ℕ) → low_digits x i ≡ low_digits y i → low_digits (bit_xor x y) i ≡ 0
differ_of_low x y i e = xor_low x y i ∙ ap (λ (r : ℕ). bit_xor r (low_digits y i)) e ∙ xor_self (low_digits y i)

-- the code's test of the low digits, m the mask
pub low_equal : (x y i m : ℕ) → x < 16 ^ 8 → y < 16 ^ 8 → m ≡ suffix_mask (min i 8) → eqb (bit_and (bit_xor x y) m) 0 ≡ eqb (low_digits y i) (low_digits x i)
low_equal x y i m hx hy e =
    let k = min i 8 in
    let q : bit_and (bit_xor x y) m ≡ low_digits (bit_xor x y) k = ap (bit_and (bit_xor x y)) e ∙ mask_low (bit_xor x y) k in
    same_test _ _
    (λ t. eq-eqb _ _ (sym (low_cap y hy i) ∙ sym (differ_low x y k (sym q ∙ eqb-true _ 0 t)) ∙ low_cap x hx i))
    (λ t. eq-eqb _ 0 (q ∙ differ_of_low x y k (low_cap x hx i ∙ sym (eqb-true _ _ t) ∙ sym (low_cap y hy i))))

-- ---- the common suffix of two ids that differ, by the trailing zeros of their exclusive or

module _ (d x y : ℕ) (hx : x < 16 ^ 8) (hy : y < 16 ^ 8) (other : x ≡ y → ⊥) where
  suffix_le_places : common_suffix d x y ≤ 8
  suffix_le_places =
      le_of_not_lt (λ l. other (sym (low_whole x 8 hx) ∙ suffix_low d x y 8 (le_of_lt l) ∙ low_whole y 8 hy))

  pub suffix_zeros : min (count_trailing_zeros 32 (bit_xor x y) / 4) d ≡ common_suffix d x y
  suffix_zeros =
      let c = common_suffix d x y in
      let m = min (count_trailing_zeros 32 (bit_xor x y) / 4) d in
      let bits : 4 * c ≤ count_trailing_zeros 32 (bit_xor x y) = trailing_of_low (4 * c) 32 (bit_xor x y) (omega (arith, suffix_le_places)) (sym (low_bits (bit_xor x y) c) ∙ differ_of_low x y c (suffix_low d x y c (le_refl c))) in
      le_antisymm
      (suffix_of_low d x y m (min-le_right _ d) (differ_low x y m (low_bits (bit_xor x y) m ∙ trailing_low (4 * m) 32 (bit_xor x y) (omega arith))))
      (le-min (omega arith) (suffix_le d x y))
