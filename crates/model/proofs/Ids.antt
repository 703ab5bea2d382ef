-- Laws of identifiers. All of them rest on one: the low i + 1 digits of an id are its digit i before its low i digits.
-- d is the number of digits, x, y and z are ids. Assumes nothing.
use Prim.Native.Nat.{ℕ, zero, suc, ◌+◌, ◌*◌, ◌/◌, ◌%◌, ◌^◌, ◌≤◌, ◌<◌}
use mathlib.Core.Path.{◌≡◌, refl, sym, ap, ap₂, subst, ◌∙◌}
use mathlib.Core.Bool.{true}
use native.Mathlib.Nat.{pow-suc, pow-succ', one-le-pow, mod-one, mod-lt, mod-eq_of_lt, div-eq_of_lt, div-lt_iff_lt-mul, zero-lt-suc, le_refl, le_trans, le_of_eq, le_antisymm, le_step, lt-suc_self, lt_irrefl, lt_of_lt_of_le, one-mul, mul-suc}
use native.Mathlib.Decide.{le_ind}
use native.Mathlib.Numerals.{add-one, lt_of_le_of_ne}
use native.Mathlib.Omega.{arith}
use lib.Dec.{leb, eqb}
use lib.Arith.{digits_div, digits_mod, mod-mul}
use lib.Pow.{pow-add, pow_mono}
use lib.Bits.{bit_and, and_mask}
use borrow.Author.Tests.{not-true, not-false, eqb-true, eqb-false, eq-eqb, lt-ltb, ltb-true, leb-true, le-leb}
use Rattle.model.specs.Loops.{all_below}
use Rattle.model.specs.Ids.{settings_in_range, digit_of, digit_below, valid_id, digits_differ, common_suffix, low_digits, suffix_mask}
use Rattle.model.specs.Tables.{qualified}
use Rattle.model.proofs.Bools.{and_left, and_right, and_intro}
use Rattle.model.proofs.Loops.{all_of, all_at, le_of_not_lt, first_le, first_before, first_holds}

-- ---- settings

pub record InRange (b d K : ℕ) : Type 0 where
  pub base_least : 2 ≤ b
  pub base_most : b ≤ 16
  pub digits_least : 1 ≤ d
  pub digits_most : d ≤ 8
  pub depth_least : 1 ≤ K
  pub depth_most : K ≤ 4

pub settings_range : (b d K : ℕ) → settings_in_range b d K ≡ true → InRange b d K
unfolding settings_in_range
settings_range b d K e₁ =
    let e₂ = and_right (leb 2 b) _ e₁ in
    let e₃ = and_right (leb b 16) _ e₂ in
    let e₄ = and_right (leb 1 d) _ e₃ in
    let e₅ = and_right (leb d 8) _ e₄ in record {
      base_least = leb-true 2 b (and_left _ _ e₁);
      base_most = leb-true b 16 (and_left _ _ e₂);
      digits_least = leb-true 1 d (and_left _ _ e₃);
      digits_most = leb-true d 8 (and_left _ _ e₄);
      depth_least = leb-true 1 K (and_left _ _ e₅);
      depth_most = leb-true K 4 (and_right (leb 1 K) _ e₅);
    }

pub settings_of : (b d K : ℕ) → InRange b d K → settings_in_range b d K ≡ true
unfolding settings_in_range
settings_of b d K w =
    simp
    (le-leb 2 b w.base_least, le-leb b 16 w.base_most, le-leb 1 d w.digits_least, le-leb d 8 w.digits_most, le-leb 1 K w.depth_least, le-leb K 4 w.depth_most)

-- ---- digits, and the number that the low ones make

pub power_pos : (i : ℕ) → 0 < 16 ^ i
power_pos i = one-le-pow i 16 (zero-lt-suc 15)

pub digit_lt : (x i : ℕ) → digit_of x i < 16
unfolding digit_of
digit_lt x i = mod-lt (x / 16 ^ i) (zero-lt-suc 15)

pub low_lt : (x i : ℕ) → low_digits x i < 16 ^ i
unfolding low_digits
low_lt x i = mod-lt x (power_pos i)

pub low_zero : (x : ℕ) → low_digits x 0 ≡ 0
unfolding low_digits
low_zero x = mod-one x

pub low_suc : (x i : ℕ) → low_digits x (suc i) ≡ digit_of x i * 16 ^ i + low_digits x i
unfolding low_digits digit_of
low_suc x i = ap (λ (p : ℕ). x % p) (pow-succ' 16 i) ∙ mod-mul x (zero-lt-suc 15) (power_pos i)

-- an id below 16 ^ i has no more than i digits
pub low_whole : (x i : ℕ) → x < 16 ^ i → low_digits x i ≡ x
unfolding low_digits
low_whole x i l = mod-eq_of_lt l

pub digit_above : (x i : ℕ) → x < 16 ^ i → digit_of x i ≡ 0
unfolding digit_of
digit_above x i l = ap (λ (q : ℕ). q % 16) (div-eq_of_lt l)

-- the low i + 1 digits agree exactly when digit i and the low i digits do
pub low_join : (x y i : ℕ) → digit_of x i ≡ digit_of y i → low_digits x i ≡ low_digits y i → low_digits x (suc i) ≡ low_digits y (suc i)
low_join x y i e q = low_suc x i ∙ ap₂ (λ (a r : ℕ). a * 16 ^ i + r) e q ∙ sym (low_suc y i)

low_both : (x y i : ℕ) → low_digits x (suc i) ≡ low_digits y (suc i) → digit_of x i * 16 ^ i + low_digits x i ≡ digit_of y i * 16 ^ i + low_digits y i
low_both x y i e = sym (low_suc x i) ∙ e ∙ low_suc y i

pub low_digit : (x y i : ℕ) → low_digits x (suc i) ≡ low_digits y (suc i) → digit_of x i ≡ digit_of y i
low_digit x y i e =
    sym (digits_div (digit_of x i) (low_lt x i)) ∙ ap (λ (n : ℕ). n / 16 ^ i) (low_both x y i e) ∙ digits_div (digit_of y i) (low_lt y i)

pub low_rest : (x y i : ℕ) → low_digits x (suc i) ≡ low_digits y (suc i) → low_digits x i ≡ low_digits y i
low_rest x y i e =
    sym (digits_mod (digit_of x i) (low_lt x i)) ∙ ap (λ (n : ℕ). n % 16 ^ i) (low_both x y i e) ∙ digits_mod (digit_of y i) (low_lt y i)

-- so the low i digits agree exactly when every digit below i does
pub low_of_digits : (x y i : ℕ) → ((k : ℕ) → k < i → digit_of x k ≡ digit_of y k) → low_digits x i ≡ low_digits y i
low_of_digits x y zero h = low_zero x ∙ sym (low_zero y)
low_of_digits x y (suc i) h = low_join x y i (h i (lt-suc_self i)) (low_of_digits x y i (λ k l. h k (le_step l)))

pub low_at : (x y i : ℕ) → low_digits x i ≡ low_digits y i → (k : ℕ) → k < i → digit_of x k ≡ digit_of y k
low_at x y i e k l =
    le_ind (λ (m : ℕ). low_digits x m ≡ low_digits y m → digit_of x k ≡ digit_of y k) (low_digit x y k) (λ m g h q. h (low_rest x y m q)) i l e

-- ---- the common suffix

pub suffix_le : (d x y : ℕ) → common_suffix d x y ≤ d
unfolding common_suffix
suffix_le d x y = first_le d (digits_differ x y)

pub suffix_digit : (d x y k : ℕ) → k < common_suffix d x y → digit_of x k ≡ digit_of y k
unfolding common_suffix
suffix_digit d x y k l = eqb-true (digit_of x k) (digit_of y k) (not-false _ (first_before d (digits_differ x y) k l))

-- at the place of the common suffix the digits differ
pub suffix_differ : (d x y : ℕ) → common_suffix d x y < d → digit_of x (common_suffix d x y) ≡ digit_of y (common_suffix d x y) → ⊥
unfolding common_suffix
suffix_differ d x y l =
    let k = common_suffix d x y in eqb-false (digit_of x k) (digit_of y k) (not-true _ (first_holds d (digits_differ x y) l))

pub suffix_of_digits : (d x y i : ℕ) → i ≤ d → ((k : ℕ) → k < i → digit_of x k ≡ digit_of y k) → i ≤ common_suffix d x y
suffix_of_digits d x y i l h = le_of_not_lt (λ g. suffix_differ d x y (lt_of_lt_of_le g l) (h (common_suffix d x y) g))

-- i is at most the common suffix exactly when the low i digits agree
pub suffix_low : (d x y i : ℕ) → i ≤ common_suffix d x y → low_digits x i ≡ low_digits y i
suffix_low d x y i l = low_of_digits x y i (λ k g. suffix_digit d x y k (lt_of_lt_of_le g l))

pub suffix_of_low : (d x y i : ℕ) → i ≤ d → low_digits x i ≡ low_digits y i → i ≤ common_suffix d x y
suffix_of_low d x y i l e = suffix_of_digits d x y i l (low_at x y i e)

pub suffix_sym : (d x y : ℕ) → common_suffix d x y ≡ common_suffix d y x
suffix_sym d x y = le_antisymm (half x y) (half y x)
  where
    half : (x y : ℕ) → common_suffix d x y ≤ common_suffix d y x
    half x y = let i = common_suffix d x y in suffix_of_low d y x i (suffix_le d x y) (sym (suffix_low d x y i (le_refl i)))

-- two ids that share i digits with a third share them
pub suffix_through : (d x y z i : ℕ) → i ≤ common_suffix d x y → i ≤ common_suffix d x z → i ≤ common_suffix d y z
suffix_through d x y z i a b =
    suffix_of_low d y z i (le_trans a (suffix_le d x y)) (sym (suffix_low d x y i a) ∙ suffix_low d x z i b)

-- an id that shares more digits with a third than x does shares with x as many as the third does
pub suffix_nearer : (d x y z : ℕ) → common_suffix d x z < common_suffix d y z → common_suffix d x y ≡ common_suffix d x z
suffix_nearer d x y z l =
    let m : ℕ = common_suffix d x z in
    le_antisymm (le_of_not_lt (λ g. lt_irrefl m (suffix_through d y x z (suc m) (omega (arith, suffix_sym d x y)) l)))
    (suffix_through d z x y m (omega (arith, suffix_sym d x z)) (omega (arith, suffix_sym d y z)))

pub suffix_self : (d x : ℕ) → common_suffix d x x ≡ d
suffix_self d x = le_antisymm (suffix_le d x x) (suffix_of_low d x x d (le_refl d) refl)

-- ---- valid ids

pub valid_lt : (b d x : ℕ) → valid_id b d x ≡ true → x < 16 ^ d
unfolding valid_id
valid_lt b d x e =
    let q : x / 16 ^ d ≡ 0 = eqb-true (x / 16 ^ d) 0 (and_right (all_below d (digit_below b x)) _ e) in
    subst (λ (n : ℕ). x < n) (one-mul (16 ^ d)) ((div-lt_iff_lt-mul (power_pos d)).0 (omega arith))

pub valid_digit : (b d x k : ℕ) → valid_id b d x ≡ true → k < d → digit_of x k < b
unfolding valid_id
valid_digit b d x k e l = ltb-true (digit_of x k) b (all_at d (digit_below b x) (and_left _ _ e) k l)

pub valid_of : (b d x : ℕ) → ((k : ℕ) → k < d → digit_of x k < b) → x < 16 ^ d → valid_id b d x ≡ true
unfolding valid_id
valid_of b d x h l =
    and_intro (all_below d (digit_below b x)) (eqb (x / 16 ^ d) 0) (all_of d (digit_below b x) (λ k g. lt-ltb (digit_of x k) b (h k g)))
    (eq-eqb (x / 16 ^ d) 0 (div-eq_of_lt l))

-- the common suffix of two valid ids is d exactly when they are equal
pub suffix_equal : (b d x y : ℕ) → valid_id b d x ≡ true → valid_id b d y ≡ true → common_suffix d x y ≡ d → x ≡ y
suffix_equal b d x y v w e =
    sym (low_whole x d (valid_lt b d x v)) ∙ suffix_low d x y d (le_of_eq (sym e)) ∙ low_whole y d (valid_lt b d y w)

pub suffix_other : (b d x y : ℕ) → valid_id b d x ≡ true → valid_id b d y ≡ true → (x ≡ y → ⊥) → common_suffix d x y < d
suffix_other b d x y v w h = lt_of_le_of_ne (suffix_le d x y) (λ e. h (suffix_equal b d x y v w e))

-- ---- qualified nodes: y for entry (i, j) of x

pub qualified_low : (x y i j : ℕ) → qualified x y i j ≡ true → low_digits x i ≡ low_digits y i
unfolding qualified
qualified_low x y i j e = sym (eqb-true (low_digits y i) (low_digits x i) (and_left _ _ e))

pub qualified_digit : (x y i j : ℕ) → qualified x y i j ≡ true → digit_of y i ≡ j
unfolding qualified
qualified_digit x y i j e = eqb-true (digit_of y i) j (and_right (eqb (low_digits y i) (low_digits x i)) _ e)

pub qualified_suffix : (d x y i j : ℕ) → i ≤ d → qualified x y i j ≡ true → i ≤ common_suffix d x y
qualified_suffix d x y i j l e = suffix_of_low d x y i l (qualified_low x y i j e)

pub qualified_of : (d x y i j : ℕ) → i ≤ common_suffix d x y → digit_of y i ≡ j → qualified x y i j ≡ true
unfolding qualified
qualified_of d x y i j l e =
    and_intro (eqb (low_digits y i) (low_digits x i)) (eqb (digit_of y i) j) (eq-eqb _ _ (sym (suffix_low d x y i l))) (eq-eqb _ _ e)

-- the next hop from u to z shares one digit more with z
pub next_hop_lem : (d u v z : ℕ) → common_suffix d u z < d → qualified u v (common_suffix d u z) (digit_of z (common_suffix d u z)) ≡ true
    → common_suffix d u z + 1 ≤ common_suffix d v z
next_hop_lem d u v z l e =
    let m = common_suffix d u z in
    rw add-one
    (suffix_of_low d v z (suc m) l
    (low_join v z m (qualified_digit u v m (digit_of z m) e) (sym (qualified_low u v m (digit_of z m) e) ∙ suffix_low d u z m (le_refl m))))

-- ---- bits

pub power_bits : (i : ℕ) → 16 ^ i ≡ 2 ^ (4 * i)
power_bits zero = refl
power_bits (suc i) =
    pow-suc 16 i ∙ ap (λ (p : ℕ). p * 16) (power_bits i) ∙ sym (pow-add 2 (4 * i) 4) ∙ ap (λ (k : ℕ). 2 ^ k) (sym (mul-suc 4 i))

-- a valid id fits 32 bits
pub valid_fits : (b d x : ℕ) → d ≤ 8 → valid_id b d x ≡ true → x < 2 ^ 32
valid_fits b d x l e =
    let g : 4 * d ≤ 32 = omega arith in
    let h : 16 ^ d ≤ 2 ^ 32 = rw power_bits (pow_mono g) in lt_of_lt_of_le (valid_lt b d x e) h

-- digit i stands in bits 4i to 4i+3
pub digit_bits : (x i : ℕ) → bit_and (x / 2 ^ (4 * i)) 15 ≡ digit_of x i
unfolding digit_of
digit_bits x i = rw power_bits (and_mask (x / 2 ^ (4 * i)) 4)

-- the mask of i digits leaves the low i digits
pub mask_low : (x i : ℕ) → bit_and x (suffix_mask i) ≡ low_digits x i
unfolding suffix_mask low_digits
mask_low x i = rw power_bits (and_mask x (4 * i))
