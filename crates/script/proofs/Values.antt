-- Laws of digits and of a number read digit by digit. Assumes nothing.
use Rattle.std.specs.Prelude.{Option, Some, None}
use Prim.Native.Nat.{ℕ, suc, ◌+◌, ◌*◌, ◌≤◌, ◌<◌}
use mathlib.Core.Path.{◌≡◌, refl, sym, ap, ◌∙◌}
use mathlib.Core.Bool.{Bool, true, false, cond, ◌&&◌, and-false, and-eq-true_iff, true≢false}
use mathlib.Core.List.{List, [], ◌∷◌}
use native.Mathlib.Nat.{le_refl, le_trans, le-mul_of_pos_right}
use native.Mathlib.Numerals.{add-one}
use native.Mathlib.Omega.{arith}
use lib.Dec.{ltb}
use lib.ListN.{length, get_or, drop, drop_of_length-le}
use lib.Seq.{drop-cons}
use borrow.Author.Tests.{ltb-true, ltb-false, lt-ltb, le-ltb}
use Rattle.script.specs.Words.{is_empty}
use Rattle.script.specs.Numbers.{digit, are_digits, value_from, is_number, value_of, number_of, with_digit}

-- ---- a number read digit by digit

-- the number that a text is behind the digits of the value n
unfoldable pub number_from : ℕ → ℕ → List ℕ → Option ℕ
number_from base n w =
    cond (are_digits base w && ltb (value_from base n w) 18446744073709551616) (Some (value_from base n w)) None

-- the same, of the text from place i on
unfoldable pub number_at : ℕ → ℕ → List ℕ → ℕ → Option ℕ
number_at base n text i = number_from base n (drop i text)

value_grows : (base n : ℕ) (w : List ℕ) → 0 < base → n ≤ value_from base n w
unfolding value_from
value_grows base n [] l = le_refl n
value_grows base n (b ∷ w) l =
    let h : n ≤ n * base = le-mul_of_pos_right n l in
    let g : n ≤ n * base + digit b = omega arith in
    le_trans g (value_grows base (n * base + digit b) w l)

-- what a number that is there says of its test, and one that is not

is_of : (a : Bool) (v m : ℕ) → cond a (Some v) None ≡ Some m → (a ≡ true) × (v ≡ m)
is_of true v m e = (refl, cc)
is_of false v m e = let z : ◌≡◌ {A = ℕ} 0 1 = cc in absurd (omega arith)

not_of : (a : Bool) (v : ℕ) → cond a (Some v) None ≡ None → a ≡ false
not_of true v e = let z : ◌≡◌ {A = ℕ} 0 1 = cc in absurd (omega arith)
not_of false v e = refl

pub number_below : (base n d : ℕ) (x : Option ℕ) (m : ℕ) → x ≡ with_digit base n d → x ≡ Some m → m < 18446744073709551616
unfolding with_digit
number_below base n d x m p h =
    let k = is_of (ltb d base && ltb (n * base + d) 18446744073709551616) (n * base + d) m (sym p ∙ h) in
    let g = ((and-eq-true_iff (ltb d base) (ltb (n * base + d) 18446744073709551616)).0 k.0).1 in
    let l : n * base + d < 18446744073709551616 = ltb-true (n * base + d) 18446744073709551616 g in
    let v : n * base + d ≡ m = k.1 in
    omega arith

module _ (base n b : ℕ) (w : List ℕ) where
  number_more : (m : ℕ) → with_digit base n (digit b) ≡ Some m → number_from base n (b ∷ w) ≡ number_from base m w
  unfolding with_digit number_from are_digits value_from
  number_more m e =
      let h = is_of (ltb (digit b) base && ltb (n * base + digit b) 18446744073709551616) (n * base + digit b) m e in
      let d = ((and-eq-true_iff (ltb (digit b) base) (ltb (n * base + digit b) 18446744073709551616)).0 h.0).0 in
      simp (d, h.1)

  number_none : 0 < base → with_digit base n (digit b) ≡ None → number_from base n (b ∷ w) ≡ None
  unfolding with_digit number_from are_digits value_from
  number_none l e = go (ltb (digit b) base) (ltb (n * base + digit b) 18446744073709551616) refl refl (not_of _ (n * base + digit b) e)
    where
      go : (a c : Bool) → ltb (digit b) base ≡ a → ltb (n * base + digit b) 18446744073709551616 ≡ c → (a && c) ≡ false
          → cond ((a && are_digits base w) && ltb (value_from base (n * base + digit b) w) 18446744073709551616)
          (Some (value_from base (n * base + digit b) w)) None
          ≡ None
      go false c p q h = refl
      go true true p q h = absurd (true≢false h)
      go true false p q h =
          let g = ltb-false (n * base + digit b) 18446744073709551616 q in
          let v = value_grows base (n * base + digit b) w l in
          simp (le-ltb (value_from base (n * base + digit b) w) 18446744073709551616 (le_trans g v), and-false (are_digits base w))

-- the code's loop, whose value so far is n at place i; x is what it has computed of the next digit

pub number_holds : (base : ℕ) (text : List ℕ) → (length text ≡ 0 → ⊥) → number_of base text ≡ number_at base 0 text 0
unfolding number_of is_number is_empty value_of number_at number_from
number_holds base [] h = absurd (h refl)
number_holds base (b ∷ text) h = refl

pub number_ends : (base : ℕ) (text : List ℕ) (n i : ℕ) → number_of base text ≡ number_at base n text i → length text ≤ i
    → n < 18446744073709551616 → Some n ≡ number_of base text
unfolding number_at number_from are_digits value_from
number_ends base text n i e l g =
    sym (e ∙ ap (number_from base n) (drop_of_length-le text l) ∙ simp (lt-ltb n 18446744073709551616 g))

module _ (base : ℕ) (text : List ℕ) (n i : ℕ) (x : Option ℕ) (e : number_of base text ≡ number_at base n text i) (l : i < length text)
    (p : x ≡ with_digit base n (digit (get_or text i 0))) where
  digit_next : with_digit base n (digit (get_or text i 0)) ≡ x
  digit_next = sym p

  pub number_goes : (m : ℕ) → x ≡ Some m → number_of base text ≡ number_at base m text (i + 1)
  unfolding number_at
  number_goes m h =
      e ∙ ap (number_from base n) (drop-cons text i 0 l) ∙ number_more base n (get_or text i 0) (drop (suc i) text) m (digit_next ∙ h)
      ∙ ap (λ (j : ℕ). number_from base m (drop j text)) (sym (add-one i))

  pub number_leaves : 0 < base → x ≡ None → None ≡ number_of base text
  unfolding number_at
  number_leaves b h =
      sym
      (e ∙ ap (number_from base n) (drop-cons text i 0 l) ∙ number_none base n (get_or text i 0) (drop (suc i) text) b (digit_next ∙ h))
