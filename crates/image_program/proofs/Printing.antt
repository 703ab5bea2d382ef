-- Line one, what is printed for an answer and for an image, and what is written by a report. Assumes nothing.
use Rattle.std.proofs.Common.{ℕ, ◌≡◌, ◌≢◌, ◌≤◌, ◌++◌, sym, ap, subst, ◌∙◌, List, [], Bool, length, take, get_or, cond}
use Rattle.std.specs.Prelude.{Option, Some, IfSome, eqb}
use Rattle.std.specs.Io.KnownBytes.{Appends}
use borrow.Author.Tests.{eq-eqb, ne_eqb}
use Rattle.model.specs.Memory.{Memory}
use Rattle.model.specs.Refusals.{read_refusal}
use Rattle.model.specs.Calls.{Outcome, taken, read_call}
use Rattle.model.proofs.Sound.{Sound}
use Rattle.model.proofs.ReadingIsSound as reading
use Rattle.model.proofs.Calls.{taken_is, taken_zero}
use Rattle.putting.specs.Put.{Put}
use Rattle.text.specs.Ascii.{ascii}
use Rattle.text.specs.Lines.{line}
use Rattle.image_program.specs.Answered.{Answered, Reported}
use Rattle.image_program.specs.Printed.{line_one, answer_text, image_text}
use Rattle.image_program.proofs.Overlong.{overlong}

-- ---- line one, and a text put at the start of a room

pub line_one_put : (n : ℕ) (o p : List ℕ) (e : ℕ) → Put o 0 (line (ascii "refusal ") n) p e → Put o 0 (line_one n) p e
unfolding line_one
line_one_put n o p e P = P

-- ---- an answer with this refusal first

module _ (answer lines : List ℕ) where
  pub answer_refused : get_or answer 0 0 ≢ 0 → line_one (get_or answer 0 0) ≡ answer_text answer lines
  unfolding answer_text
  answer_refused n = rw (ne_eqb (get_or answer 0 0) 0 n)

  pub answer_taken : get_or answer 0 0 ≡ 0 → line_one 0 ++ lines ≡ answer_text answer lines
  unfolding answer_text
  answer_taken z = rw (eq-eqb (get_or answer 0 0) 0 z)

-- ---- an image that reading left as memory m₁, with this answer

module _ (m : Memory) (im : List ℕ) (m₁ : Memory) (answer : List ℕ) (e : record { memory = m₁; out = []; answer = answer } ≡ read_call m im) where
  pub memory_read : m₁ ≡ (read_call m im).memory
  memory_read = ap (λ (o : Outcome). o.memory) e

  -- what was read is sound
  pub read_sound : get_or answer 0 0 ≡ 0 → Sound m₁.state m₁.tables
  unfolding read_call taken
  read_sound z =
      let free : read_refusal m im ≡ 0 = taken_zero m (read_refusal m im) [] _ _ (eq-eqb _ 0 (ap (λ (o : Outcome). get_or o.answer 0 0) (sym e) ∙ z)) in
      subst (λ (m : Memory). Sound m.state m.tables) (ap (λ (o : Outcome). o.memory) (sym (taken_is _ _ _ free)) ∙ sym memory_read)
      (reading.read_sound m im free)

  module _ (refusal : List ℕ → List ℕ) (text : Memory → List ℕ) where
    of_outcome : Outcome → List ℕ
    of_outcome o = cond (eqb (get_or o.answer 0 0) 0) (text o.memory) (refusal o.answer)

    pub image_refused : get_or answer 0 0 ≢ 0 → refusal answer ≡ image_text refusal text m im
    unfolding image_text of_outcome
    image_refused n = ap (λ (b : Bool). cond b (text m₁) (refusal answer)) (sym (ne_eqb (get_or answer 0 0) 0 n)) ∙ ap of_outcome e

    pub image_taken : get_or answer 0 0 ≡ 0 → text m₁ ≡ image_text refusal text m im
    unfolding image_text of_outcome
    image_taken z = ap (λ (b : Bool). cond b (text m₁) (refusal answer)) (sym (eq-eqb (get_or answer 0 0) 0 z)) ∙ ap of_outcome e

-- a program prints for the first 65,536 bytes of an overlong input what the whole of it deserves
pub overlong_text : (refusal : List ℕ → List ℕ) (text : Memory → List ℕ) (m : Memory) (im : List ℕ) → 65536 ≤ length im
    → image_text refusal text m (take 65536 im) ≡ image_text refusal text m im
unfolding image_text
overlong_text refusal text m im long =
    ap (λ (r : Outcome). cond (eqb (get_or r.answer 0 0) 0) (text r.memory) (refusal r.answer)) (overlong im m long)

-- ---- a report whose output is the text of its image

pub answered_of : {T : Type 0} (text : List ℕ → List ℕ) (reports : List ℕ → T → Type 0) (output : T → Option (List ℕ)) (a b c d : Option (List ℕ))
    → ((image : List ℕ) (r : T) → reports image r → output r ≡ Some (text image)) → Reported reports output a b c d → Answered text a b c d
answered_of text reports output a b c d is r =
    record { image = r.image; taken = r.taken; written = of_some (output r.report) (is r.image r.report r.reported) r.written }
  where
    of_some : (o : Option (List ℕ)) → o ≡ Some (text r.image) → IfSome o (Appends c d) → Appends c d (text r.image)
    of_some o e w = subst (λ o. IfSome o (Appends c d)) e w
