-- Laws of tests that the library lacks. Assumes nothing.
use Prim.Native.Nat.{ℕ, ◌≤◌, ◌<◌}
use mathlib.Core.Path.{◌≡◌, refl, sym, ap, ◌∙◌}
use mathlib.Core.Logic.{◌⊎◌, inl, inr, ⊎_elim}
use mathlib.Core.Bool.{Bool, true, false, not, ◌&&◌, ◌||◌, true≢false, false≢true, and-eq-true_iff}
use lib.Dec.{leb}
use borrow.Author.Tests.{not-true, not-false, leb-true, leb-false}

-- every test goes one way or the other
pub true_or_false : (a : Bool) → (a ≡ true) ⊎ (a ≡ false)
true_or_false true = inl refl
true_or_false false = inr refl

pub not_both : (a : Bool) → a ≡ true → a ≡ false → ⊥
not_both true e q = true≢false q
not_both false e q = false≢true e

pub is_false : (a : Bool) → (a ≡ true → ⊥) → false ≡ a
is_false true h = absurd (h refl)
is_false false h = refl

pub le_or_lt : (m n : ℕ) → (m ≤ n) ⊎ (n < m)
le_or_lt m n = ⊎_elim (λ e. inl (leb-true m n e)) (λ e. inr (leb-false m n e)) (true_or_false (leb m n))

-- ---- contraposition, both ways

pub back_false : (a b : Bool) → (a ≡ true → b ≡ true) → b ≡ false → a ≡ false
back_false true b h e = absurd (not_both b (h refl) e)
back_false false b h e = refl

pub back_true : (a b : Bool) → (a ≡ false → b ≡ false) → b ≡ true → a ≡ true
back_true true b h e = refl
back_true false b h e = absurd (not_both b e (h refl))

-- two tests that imply each other are one
pub same_test : (a b : Bool) → (a ≡ true → b ≡ true) → (b ≡ true → a ≡ true) → a ≡ b
same_test true b h g = sym (h refl)
same_test false b h g = sym (back_false b false g refl)

-- ---- the parts of `a && b` and `a || b`

pub and_left : (a b : Bool) → (a && b) ≡ true → a ≡ true
and_left a b e = ((and-eq-true_iff a b).0 e).0

pub and_right : (a b : Bool) → (a && b) ≡ true → b ≡ true
and_right a b e = ((and-eq-true_iff a b).0 e).1

pub ruleset parts = (and_left, and_right)

pub and_intro : (a b : Bool) → a ≡ true → b ≡ true → (a && b) ≡ true
and_intro a b e q = (and-eq-true_iff a b).1 (e, q)

pub or_cases : (a b : Bool) → (a || b) ≡ true → (a ≡ true) ⊎ (b ≡ true)
or_cases true b e = inl refl
or_cases false b e = inr e

-- `a || b` where a does not hold
pub or_right : (a b : Bool) → (a || b) ≡ true → a ≡ false → b ≡ true
or_right true b e q = absurd (not_both true e q)
or_right false b e q = e

pub or_intro_left : (a b : Bool) → a ≡ true → (a || b) ≡ true
or_intro_left true b e = refl
or_intro_left false b e = absurd (false≢true e)

pub or_intro_right : (a b : Bool) → b ≡ true → (a || b) ≡ true
or_intro_right true b e = refl
or_intro_right false b e = e

-- the parts of `a || b` where it does not hold
pub or_none_left : (a b : Bool) → (a || b) ≡ false → a ≡ false
or_none_left true b e = e
or_none_left false b e = refl

pub or_none_right : (a b : Bool) → (a || b) ≡ false → b ≡ false
or_none_right true b e = absurd (not_both true refl e)
or_none_right false b e = e

-- ---- code that returns early: `if !r { return false; } s` for `a && b`

pub and_leaves : (a b r : Bool) → r ≡ a → not r ≡ true → false ≡ (a && b)
and_leaves a b r e h = sym (ap (λ (t : Bool). t && b) (sym e ∙ not-true r h))

pub and_goes : (a b r s : Bool) → r ≡ a → not r ≡ false → s ≡ b → s ≡ (a && b)
and_goes a b r s e h q = q ∙ sym (ap (λ (t : Bool). t && b) (sym e ∙ not-false r h))
