-- Early returns on a comparison of numbers: `.._leaves` is the return, `.._goes` the way on, for `a && b` and, with `or`, for `a || b`.
-- Assumes nothing.
use Prim.Native.Nat.{ℕ, ◌≤◌, ◌<◌}
use mathlib.Core.Path.{◌≡◌, sym, ap, ◌∙◌}
use mathlib.Core.Bool.{Bool, true, false, ◌&&◌, ◌||◌}
use lib.Dec.{eqb, leb, ltb}
use borrow.Author.Tests.{eq-eqb, ne_eqb, le-leb, lt-leb, lt-ltb}

-- a test that is known, before `&&` and before `||`
pub true_goes : (a b s : Bool) → a ≡ true → s ≡ b → s ≡ (a && b)
true_goes a b s e q = q ∙ sym (ap (λ (t : Bool). t && b) e)

pub false_leaves : (a b : Bool) → a ≡ false → false ≡ (a && b)
false_leaves a b e = sym (ap (λ (t : Bool). t && b) e)

pub false_or_goes : (a b s : Bool) → a ≡ false → s ≡ b → s ≡ (a || b)
false_or_goes a b s e q = q ∙ sym (ap (λ (t : Bool). t || b) e)

pub true_or_leaves : (a b : Bool) → a ≡ true → true ≡ (a || b)
true_or_leaves a b e = sym (ap (λ (t : Bool). t || b) e)

pub eq_goes : (m n : ℕ) (b s : Bool) → m ≡ n → s ≡ b → s ≡ (eqb m n && b)
eq_goes m n b s e = true_goes (eqb m n) b s (eq-eqb m n e)

pub eq_leaves : (m n : ℕ) (b : Bool) → (m ≡ n → ⊥) → false ≡ (eqb m n && b)
eq_leaves m n b h = false_leaves (eqb m n) b (ne_eqb m n h)

pub le_goes : (m n : ℕ) (b s : Bool) → m ≤ n → s ≡ b → s ≡ (leb m n && b)
le_goes m n b s l = true_goes (leb m n) b s (le-leb m n l)

pub le_leaves : (m n : ℕ) (b : Bool) → n < m → false ≡ (leb m n && b)
le_leaves m n b l = false_leaves (leb m n) b (lt-leb m n l)

pub lt_goes : (m n : ℕ) (b s : Bool) → m < n → s ≡ b → s ≡ (ltb m n && b)
lt_goes m n b s l = true_goes (ltb m n) b s (lt-ltb m n l)

pub eq_or_goes : (m n : ℕ) (b s : Bool) → (m ≡ n → ⊥) → s ≡ b → s ≡ (eqb m n || b)
eq_or_goes m n b s h = false_or_goes (eqb m n) b s (ne_eqb m n h)

pub eq_or_leaves : (m n : ℕ) (b : Bool) → m ≡ n → true ≡ (eqb m n || b)
eq_or_leaves m n b e = true_or_leaves (eqb m n) b (eq-eqb m n e)
