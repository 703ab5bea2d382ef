-- Reading: refused by what judges the image, then by 24 alone. Assumes nothing.
use Prim.Native.Nat.{ℕ, ◌<◌}
use mathlib.Core.Path.{◌≡◌, refl, sym, ap, ap₂, ◌∙◌}
use mathlib.Core.Bool.{Bool, true, false, cond}
use mathlib.Core.List.{List, [], ◌∷◌, ◌++◌}
use native.Mathlib.Omega.{arith}
use lib.ListN.{get_or}
use borrow.Author.Tests.{not-false}
use Rattle.std.specs.Prelude.{Result, Ok, Err, IsErr, IsErrAnd}
use Rattle.model.specs.Memory.{Memory}
use Rattle.model.specs.Calls.{read_call}
use Rattle.model.specs.Image.{byte_at, loaded}
use Rattle.model.specs.Refusals.{Sentence, first_true, memory_short, frame_sentences, record_sentences, joins_wrong, read_refusal, record_place}
use Rattle.model.proofs.Calls.{refused_end, taken_end, work_left}
use Rattle.model.proofs.Refusals.{numbered, test_of, passed, sentences_refused, sentences_later}
use Rattle.model.proofs.Taken.{tables_taken}
use Rattle.answers.specs.Numbers.{number_of}
use Rattle.answers.specs.Fields.{read_fields}
use Rattle.answers.specs.declared.error.Refusal.{Refusal}
use Rattle.answers.specs.declared.error.ImageRefused.{ImageRefused}
use Rattle.image_judging.specs.Judged.{answer_of}
use Rattle.image_judging.proofs.Sentences.{counted_of}
use Rattle.image_reading.specs.Reads.{Reads}
use Rattle.refusals.specs.Refused.{read_tables_refusal}
use Rattle.engine.specs.Outcomes.{leaves}

-- ---- a refusal that `?` hands on

false_true : false ≡ true → ⊥
false_true e = Prim.cc e

-- with its place
pub place_handed : {A : Type 0} (r : Result A ImageRefused) (e : ImageRefused) → IsErr r × IsErrAnd r (λ (x : ImageRefused). x ≡ e)
    → read_fields r ≡ (number_of e.refusal ∷ e.place ∷ [])
place_handed (Ok a) e h = absurd (false_true h.0)
place_handed (Err x) e h = ap (λ (e : ImageRefused). number_of e.refusal ∷ e.place ∷ []) h.1

-- or about no record
pub refusal_handed : {A : Type 0} (r : Result A ImageRefused) (e : Refusal)
    → IsErr r × IsErrAnd r (λ (x : ImageRefused). (x.refusal ≡ e) × (x.place ≡ 0)) → read_fields r ≡ (number_of e ∷ 0 ∷ [])
refusal_handed (Ok a) e h = absurd (false_true h.0)
refusal_handed (Err x) e h = ap₂ (λ (e : Refusal) (place : ℕ). number_of e ∷ place ∷ []) h.1.0 h.1.1

-- ---- n and place are what the code found of 1 and 3 to 18

module _ (m : Memory) (im : List ℕ) (n place : ℕ) (e : (n ∷ place ∷ []) ≡ answer_of im (read_tables_refusal m im)) where
  number : n ≡ read_tables_refusal m im
  unfolding answer_of
  number = ap (λ (a : List ℕ). get_or a 0 0) e

  abbrev sentences : List Sentence
  sentences = (memory_short m, 1) ∷ (frame_sentences im ++ record_sentences im)

  pub read_refused : (n ≡ 0 → ⊥) → leaves m (n ∷ place ∷ []) ≡ read_call m im
  unfolding read_call read_refusal read_tables_refusal answer_of
  read_refused nz =
      let same : read_tables_refusal m im ≡ read_refusal m im = sentences_refused sentences ((joins_wrong im, 24) ∷ []) (read_tables_refusal m im) refl (λ z. nz (number ∙ z)) in
      ap (leaves m) e
      ∙ ap (λ (n : ℕ). leaves m (n ∷ record_place im n ∷ [])) same
      ∙ refused_end m [] (record_place im (read_refusal m im) ∷ []) (read_refusal m im) (read_refusal m im) _ refl (λ z. nz (number ∙ same ∙ z))

  module _ (z : n ≡ 0) where
    -- then 24 alone decides
    last : (b : Bool) → joins_wrong im ≡ b → cond b 24 0 ≡ read_refusal m im
    unfolding read_refusal read_tables_refusal numbered first_true
    last b w =
        sentences_later sentences ((joins_wrong im, 24) ∷ []) refl n (cond b 24 0) number z (ap (λ (b : Bool). cond b 24 0) (sym w))

    -- r is what the code found of it, and m₁ the memory that it left
    pub read_done : (m₁ : Memory) (r : ℕ)
        → (m₁ ≡ cond (joins_wrong im) m (loaded m.state m.tables im)) × (r ≡ cond (joins_wrong im) 24 0)
        → leaves m₁ (r ∷ 0 ∷ []) ≡ read_call m im
    unfolding read_call record_place
    read_done m₁ r (p, q) = go (joins_wrong im) refl p q
      where
        go : (b : Bool) → joins_wrong im ≡ b → m₁ ≡ cond b m (loaded m.state m.tables im) → r ≡ cond b 24 0 → leaves m₁ (r ∷ 0 ∷ []) ≡ read_call m im
        go true w p q =
            cc (p, q)
            ∙ ap (λ (n : ℕ). leaves m (24 ∷ record_place im n ∷ [])) (last true w)
            ∙ refused_end m [] (record_place im (read_refusal m im) ∷ []) (read_refusal m im) 24 _ (last true w) (omega arith)
        go false w p q =
            ap (λ (r : ℕ). leaves m₁ (r ∷ 0 ∷ [])) q
            ∙ taken_end (read_refusal m im) 0 _ _ _ (last false w) refl (work_left m₁ _ [] [] (0 ∷ []) (0 ∷ []) p refl refl)

    pub reads : ((a : ℕ) → byte_at im a < 256) → Reads m.state m.tables im
    unfolding read_tables_refusal numbered test_of
    reads bytes =
        let k = tables_taken m im (sym number ∙ z) in
        let p = passed _ refl (sym number ∙ z) in
        record { state = k.0.state; tables = k.0.tables; counts = counted_of im bytes (not-false _ (p 5)) (p 6); good = k.1 }
