-- The two ends of every call: refused with a number that is not 0, or taken. Assumes nothing.
use Prim.Native.Nat.{ℕ}
use mathlib.Core.Path.{◌≡◌, refl, sym, ap, subst, ◌∙◌}
use mathlib.Core.Logic.{◌≢◌}
use mathlib.Core.Bool.{Bool, true, false, cond, true≢false}
use mathlib.Core.List.{List, ◌∷◌}
use native.Mathlib.Decide.{ℕ_discrete}
use lib.Dec.{eqb}
use borrow.Author.Tests.{ne_eqb}
use Rattle.model.specs.Memory.{Memory}
use Rattle.model.specs.Calls.{Outcome, refused_at, taken, unless_refused}
use Rattle.model.specs.Run.{is_taken}
use Rattle.model.proofs.Bools.{not_both}

pub taken_is : (n : ℕ) (declined : ℕ → Outcome) (done : Outcome) → n ≡ 0 → unless_refused n declined done ≡ done
unfolding unless_refused
taken_is n declined done e = ap (λ (n : ℕ). cond (eqb n 0) done (declined n)) e

pub refused_is : (n : ℕ) (declined : ℕ → Outcome) (done : Outcome) → n ≢ 0 → unless_refused n declined done ≡ declined n
unfolding unless_refused
refused_is n declined done e = ap (λ (b : Bool). cond b done (declined n)) (ne_eqb n 0 e)

-- ---- as the code meets them: r is the number that it found

-- the refused end
pub refused_end : (m : Memory) (out fields : List ℕ) (n r : ℕ) (done : Outcome) → r ≡ n → (r ≡ 0 → ⊥)
    → record { memory = m; out = out; answer = r ∷ fields } ≡ unless_refused n (refused_at m out fields) done
unfolding refused_at
refused_end m out fields n r done e nz =
    ap (refused_at m out fields) e ∙ sym (refused_is n (refused_at m out fields) done (λ z. nz (e ∙ z)))

-- the taken end, and what the work left
pub taken_end : (n r : ℕ) (declined : ℕ → Outcome) (done o : Outcome) → r ≡ n → r ≡ 0 → o ≡ done → o ≡ unless_refused n declined done
taken_end n r declined done o e z w = w ∙ sym (taken_is n declined done (sym e ∙ z))

pub work_left : (m₁ m : Memory) (out₁ out fields₁ fields : List ℕ) → m₁ ≡ m → out₁ ≡ out → fields₁ ≡ fields
    → record { memory = m₁; out = out₁; answer = 0 ∷ fields₁ } ≡ taken m out fields
unfolding taken
work_left m₁ m out₁ out fields₁ fields a b c = cc

-- ---- by either end

-- what holds of both ends holds of the call
pub either_end : (P : Outcome → Type 0) (n : ℕ) (declined : ℕ → Outcome) (done : Outcome) → (n ≢ 0 → P (declined n)) → (n ≡ 0 → P done)
    → P (unless_refused n declined done)
either_end P n declined done f g = go (ℕ_discrete n 0)
  where
    go : Dec (n ≡ 0) → P (unless_refused n declined done)
    go (yes z) = subst P (sym (taken_is n declined done z)) (g z)
    go (no nz) = subst P (sym (refused_is n declined done nz)) (f nz)

-- a call that only looks leaves the memory as it was
pub looks_on : (m : Memory) (n : ℕ) (out fields out₁ fields₁ : List ℕ)
    → (unless_refused n (refused_at m out fields) (taken m out₁ fields₁)).memory ≡ m
unfolding refused_at taken
looks_on m n out fields out₁ fields₁ =
    either_end (λ (o : Outcome). o.memory ≡ m) n (refused_at m out fields) (taken m out₁ fields₁) (λ z. refl) (λ z. refl)

-- the refusal of a call whose answer says that it was taken is 0
pub taken_zero : (m : Memory) (n : ℕ) (out fields : List ℕ) (done : Outcome)
    → is_taken (unless_refused n (refused_at m out fields) done).answer ≡ true → n ≡ 0
unfolding refused_at
taken_zero m n out fields done =
    either_end (λ (o : Outcome). is_taken o.answer ≡ true → n ≡ 0) n (refused_at m out fields) done
    (λ nz e. absurd (not_both (eqb n 0) e (ne_eqb n 0 nz))) (λ z e. z)

-- a call that was not taken leaves the memory as it was
pub not_taken_same : (m : Memory) (n : ℕ) (out fields : List ℕ) (m₁ : Memory) (out₁ fields₁ : List ℕ)
    → is_taken (unless_refused n (refused_at m out fields) (taken m₁ out₁ fields₁)).answer ≡ false
    → (unless_refused n (refused_at m out fields) (taken m₁ out₁ fields₁)).memory ≡ m
unfolding refused_at taken
not_taken_same m n out fields m₁ out₁ fields₁ =
    either_end (λ (o : Outcome). is_taken o.answer ≡ false → o.memory ≡ m) n (refused_at m out fields) (taken m₁ out₁ fields₁)
    (λ nz e. refl) (λ z e. absurd (true≢false e))

-- two calls that are refused alike, and where they are taken leave the same, are one
pub unless_same : (n n' : ℕ) (declined : ℕ → Outcome) (done done' : Outcome) → n' ≡ n → (n ≡ 0 → done' ≡ done)
    → unless_refused n' declined done' ≡ unless_refused n declined done
unless_same n n' declined done done' e same =
    ap (λ (n : ℕ). unless_refused n declined done') e
    ∙ either_end (λ (o : Outcome). unless_refused n declined done' ≡ o) n declined done (refused_is n declined done')
    (λ z. taken_is n declined done' z ∙ same z)
