-- The law of counting nodes, which are numbered from 1: those before x are counted. Assumes nothing.
use Rattle.std.proofs.Common.{ℕ, ◌+◌, ◌-◌, ◌≤◌, ◌≡◌, ◌∙◌, sym, ap, ap₂, refl, Bool, true, false, cond, arith}
use mir.Val.{bool_byte}
use Rattle.model.specs.Loops.{count_below, node}
use Rattle.model.proofs.Loops.{count_le, count_step}

-- a test as a number
as_number : (b : Bool) → bool_byte b ≡ cond b 1 0
as_number true = refl
as_number false = refl

pub count_goes : (f : ℕ → Bool) (x count w : ℕ) (b : Bool) → 1 ≤ x → count ≡ count_below (x - 1) (node f) → w ≡ bool_byte b → b ≡ f x
    → (count + w ≤ x + 1 - 1) × (count + w ≡ count_below (x + 1 - 1) (node f))
count_goes f x count w b l e v q = (omega (arith, is, count_le (x + 1 - 1) (node f)), is)
  where
    at : x - 1 + 1 ≡ x
    at = omega arith

    next : x - 1 + 1 ≡ x + 1 - 1
    next = omega arith

    is : count + w ≡ count_below (x + 1 - 1) (node f)
    is =
        ap₂ ◌+◌ e (v ∙ as_number b ∙ ap (λ (b : Bool). cond b 1 0) (q ∙ ap f (sym at)))
        ∙ sym (count_step (x - 1) (node f))
        ∙ ap (λ (k : ℕ). count_below k (node f)) next
