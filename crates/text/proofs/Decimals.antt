-- The digits that the library spells are the number in decimal. Assumes nothing.
use Prim.Native.Nat.{ℕ, zero, suc, ◌+◌, ◌-◌, ◌*◌, ◌/◌, ◌%◌, ◌^◌, ◌≤◌, ◌<◌, min, max}
use mathlib.Core.Path.{◌≡◌, refl, sym, ap, ap₂, subst, ◌∙◌}
use mathlib.Core.List.{List, [], ◌∷◌, ◌++◌}
use native.Mathlib.Nat.{pow-suc, pow-le-pow_right, one-le-pow, zero-lt-suc, lt-suc_self}
use native.Mathlib.Decide.{dec_lt}
use native.Mathlib.Omega.{arith}
use borrow.Author.Tests.{lt-ltb, le-ltb}
use Rattle.io.specs.Digits.{last_digits, IsDigitCount, hex_digit_ascii}
use Rattle.putting.specs.Put.{Put}
use Rattle.text.specs.Numbers.{decimal_within, decimal, hexadecimal}

glyph_is : (d : ℕ) → d < 10 → 48 + d ≡ hex_digit_ascii d
glyph_is d h = rw (lt-ltb d 10 h)

spelled : (k f n : ℕ) → n < 10 ^ suc k → (0 < k → 10 ^ k ≤ n) → n < f → decimal_within f n ≡ last_digits 10 (suc k) n
unfolding decimal_within
spelled k zero n below least l = absurd (omega arith)
spelled zero (suc f) n below least l =
    let h : n < 10 = below in
    let e : n ≡ n % 10 = omega arith in
    rw (lt-ltb n 10 h) (ap (λ (d : ℕ). (48 + d) ∷ []) e ∙ ap (λ (g : ℕ). g ∷ []) (glyph_is (n % 10) (omega arith)))
spelled (suc k) (suc f) n below least l =
    let p : 10 ^ suc k ≡ 10 ^ k * 10 = pow-suc 10 k in
    let q : 10 ^ suc (suc k) ≡ 10 ^ suc k * 10 = pow-suc 10 (suc k) in
    let one : 1 ≤ 10 ^ k = one-le-pow k 10 (omega arith) in
    let h : 10 ^ suc k ≤ n = least (omega arith) in
    let ten : 10 ≤ n = omega arith in
    rw (le-ltb n 10 ten)
    (ap₂ (λ (front : List ℕ) (g : ℕ). front ++ (g ∷ [])) (spelled k f (n / 10) (omega arith) (λ z. omega arith) (omega arith)) (glyph_is (n % 10) (omega arith)))

pub decimal_is : (k n : ℕ) → IsDigitCount 10 1 n k → last_digits 10 k n ≡ decimal n
unfolding decimal
decimal_is zero n (some, below, least) = absurd (omega arith)
decimal_is (suc k) n (some, below, least) = sym (spelled k (suc n) n below (λ z. subst (λ (j : ℕ). 10 ^ j ≤ n) e (least (omega arith))) (lt-suc_self n))
  where
    e : suc k - 1 ≡ k
    e = omega arith

-- put at its place
pub number_put : (n k : ℕ) (o : List ℕ) (a : ℕ) (ds p : List ℕ) (e : ℕ) → Put o a ds p e → IsDigitCount 10 1 n k → ds ≡ last_digits 10 k n → Put o a (decimal n) p e
number_put n k o a ds p e P few d = subst (λ (l : List ℕ). Put o a l p e) (d ∙ decimal_is k n few) P

-- a number of 64 bits has at most 20
pub number_short : (n k : ℕ) → IsDigitCount 10 1 n k → n < 18446744073709551616 → k ≤ 20
number_short n k few h = go (dec_lt 20 k)
  where
    go : Dec (20 < k) → k ≤ 20
    go (no g) = omega arith
    go (yes g) =
        let p : 10 ^ (k - 1) ≤ n = few.2 (omega arith) in
        let m : 20 ≤ k - 1 = omega arith in
        let q : 100000000000000000000 ≤ 10 ^ (k - 1) = pow-le-pow_right (zero-lt-suc 9) m in
        absurd (omega arith)

-- ---- hexadecimal

-- a number that fits its width has as many digits
pub hex_width : (n k w : ℕ) → IsDigitCount 16 (min (max w 1) 16) n k → 1 ≤ w → w ≤ 16 → n < 16 ^ w → k ≡ w
hex_width n k w (some, below, least) l h f = go (dec_lt w k)
  where
    is : min (max w 1) 16 ≡ w
    is = omega arith

    go : Dec (w < k) → k ≡ w
    go (no g) = omega (arith, some, is)
    go (yes g) =
        let p : 16 ^ (k - 1) ≤ n = least (omega (arith, is)) in
        let q : 16 ^ w ≤ 16 ^ (k - 1) = pow-le-pow_right (zero-lt-suc 15) (omega arith) in
        absurd (omega arith)

hex_is : (k n : ℕ) → last_digits 16 k n ≡ hexadecimal k n
unfolding hexadecimal
hex_is zero n = refl
hex_is (suc k) n = ap (λ (front : List ℕ). front ++ (hex_digit_ascii (n % 16) ∷ [])) (hex_is k (n / 16))

pub hex_put : (n k w : ℕ) (o : List ℕ) (a : ℕ) (ds p : List ℕ) (e : ℕ) → Put o a ds p e → IsDigitCount 16 (min (max w 1) 16) n k → ds ≡ last_digits 16 k n
    → 1 ≤ w → w ≤ 16 → n < 16 ^ w → Put o a (hexadecimal w n) p e
hex_put n k w o a ds p e P few d l h f =
    subst (λ (l : List ℕ). Put o a l p e) (d ∙ ap (λ (k : ℕ). last_digits 16 k n) (hex_width n k w few l h f) ∙ hex_is w n) P
