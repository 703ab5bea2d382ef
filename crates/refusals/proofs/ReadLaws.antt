-- Reading is refused by 1, or by the image's frame and records. Assumes nothing.
use Prim.Native.Nat.{ℕ}
use mathlib.Core.Path.{◌≡◌, refl, ap, ap₂, ◌∙◌}
use mathlib.Core.Bool.{Bool, true, false}
use mathlib.Core.List.{List, [], ◌∷◌}
use Rattle.model.specs.Memory.{Memory}
use Rattle.model.specs.Refusals.{memory_short, record_place}
use Rattle.model.proofs.Refusals.{sentence_leaves, sentence_goes}
use Rattle.answers.specs.Numbers.{number_of}
use Rattle.answers.specs.declared.error.Refusal.{Refusal}
use Rattle.answers.specs.declared.error.Refusal.TheVariants.{ShortMemory}
use Rattle.answers.specs.declared.error.ImageRefused.{ImageRefused}
use Rattle.image_judging.specs.Judged.{tables_refusal, answer, answer_of}
use Rattle.refusals.specs.Refused.{read_tables_refusal}

module _ (m : Memory) (im : List ℕ) (b : Bool) (e : b ≡ memory_short m) where
  pub short_is : b ≡ true → (x : ImageRefused) → (x.refusal ≡ ShortMemory) × (x.place ≡ 0)
      → (number_of x.refusal ∷ x.place ∷ []) ≡ answer_of im (read_tables_refusal m im)
  unfolding read_tables_refusal answer_of record_place
  short_is g x q = ap₂ (λ (r : Refusal) (place : ℕ). answer (number_of r) place) q.0 q.1 ∙ ap (answer_of im) (sentence_leaves (memory_short m) 1 _ b e g)

  pub judged_is : b ≡ false → (a : List ℕ) → a ≡ answer_of im (tables_refusal im) → a ≡ answer_of im (read_tables_refusal m im)
  unfolding read_tables_refusal tables_refusal
  judged_is g a q = q ∙ ap (answer_of im) (sentence_goes (memory_short m) 1 _ _ b e g refl)
