-- What a survey leaves in C, at either end. Assumes nothing.
use Prim.Native.Nat.{ℕ}
use mathlib.Core.Path.{◌≡◌, sym, ap, ◌∙◌}
use mathlib.Core.Bool.{Bool, cond}
use mathlib.Core.List.{List, ◌∷◌}
use borrow.Author.Tests.{ne_eqb}
use Rattle.model.specs.Memory.{Memory}
use Rattle.model.specs.Calls.{Outcome}
use Rattle.engine.specs.Outcomes.{leaves}
use Rattle.overlay.specs.Packed.{outputs, surveying}

module _ (m : Memory) (r : ℕ) (found counts : List ℕ) (o : Outcome) (e : leaves m (r ∷ found) ≡ o) where
  pub survey_refused : (r ≡ 0 → ⊥) → (n : ℕ) → n ≡ r → outputs m counts n ≡ surveying o counts
  unfolding surveying
  survey_refused nz n f =
      ap (λ (n : ℕ). outputs m counts n) f
      ∙ ap (λ (b : Bool). outputs m (cond b found counts) r) (sym (ne_eqb r 0 nz)) ∙ ap (λ (o : Outcome). surveying o counts) e

pub survey_taken : (m : Memory) (found counts : List ℕ) (o : Outcome) → leaves m (0 ∷ found) ≡ o → outputs m found 0 ≡ surveying o counts
unfolding surveying
survey_taken m found counts o e = ap (λ (o : Outcome). surveying o counts) e
