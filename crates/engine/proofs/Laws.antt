-- What the work of each call asks, where nothing refused it, and the fields that it answers. Assumes nothing.
use Prim.Native.Nat.{ℕ, ◌/◌, ◌≤◌, ◌<◌}
use mathlib.Core.Path.{◌≡◌, refl, sym, ap, ap₂, ◌∙◌}
use mathlib.Core.Logic.{◌⊎◌, inl, inr}
use mathlib.Core.Bool.{Bool, true, false, cond}
use mathlib.Core.List.{List, [], ◌∷◌, ◌++◌}
use native.Mathlib.Omega.{arith}
use lib.Dec.{eqb}
use lib.ListN.{length, drop}
use borrow.Author.Tests.{eqb-true}
use Rattle.std.specs.Prelude.{Option, None, Some, Result, Ok, Err, IsErr, IsErrAnd, replicate}
use Rattle.model.specs.Memory.{Memory, state_length, tables_length}
use Rattle.model.specs.Lookup as looked
use Rattle.model.specs.Consistency as judged
use Rattle.model.specs.Survey.{survey_counts}
use Rattle.model.specs.Calls as book
use Rattle.model.specs.Calls.{Outcome, refused_at, refused, taken, unless_refused, lookup_call, survey_call, verdict_call, filled_by, write_call, trace_call}
use Rattle.model.specs.Join.{delivery, delivered}
use Rattle.model.specs.Fill.{Filling, filling}
use Rattle.model.specs.Image.{image_of}
use Rattle.model.specs.Refusals.{found_refusal, begin_refusal, withdraw_refusal, deliver_refusal, lookup_refusal, verdict_refusal, fill_refusal, write_refusal, state_refusal, trace_refusal}
use Rattle.model.proofs.Bools.{or_cases}
use Rattle.model.proofs.Calls.{refused_end, taken_end, work_left}
use Rattle.model.proofs.Sound.{Sound}
use Rattle.model.proofs.Sender.{CanDeliver}
use Rattle.model.proofs.Filling.{Steady}
use Rattle.model.proofs.Taken.{found_taken, begin_taken, withdraw_taken, deliver_taken, fill_taken, write_taken}
use Rattle.model.proofs.Traces.{trace_is}
use Rattle.answers.specs.Numbers.{number_of}
use Rattle.answers.specs.Fields.{fields_of, short_fields, lookup_fields, verdict_fields, survey_fields}
use Rattle.answers.specs.declared.error.Refusal.{Refusal}
use Rattle.answers.specs.declared.lookup.Lookup.{Lookup}
use Rattle.answers.specs.declared.verdict.ShortEntry.{ShortEntry}
use Rattle.answers.proofs.Errors.{numbered_from_one}
use Rattle.state.specs.Lent.{memory}
use Rattle.delivery_parts.specs.Answers.{took_delivery}
use Rattle.routing.specs.Answer.{book_lookup}
use Rattle.consistency.specs.Answer.{book_verdict}
use Rattle.traces.specs.Judged as traced
use Rattle.join.specs.Begins.{Begins}
use Rattle.engine.specs.Outcomes.{leaves, writes}

-- ---- the refused end

false_true : false ≡ true → ⊥
false_true e = Prim.cc e

-- a refusal that `?` hands on, with zeros in the answer's other fields
pub refused_by : {A : Type 0} (r : Result A Refusal) (e : Refusal) → IsErr r × IsErrAnd r (λ (x : Refusal). x ≡ e) → (m : Memory) (out : List ℕ) (n : ℕ)
    (fields : A → List ℕ) (number : ℕ) → number_of e ≡ number → (done : Outcome)
    → record { memory = m; out = out; answer = fields_of n fields r } ≡ unless_refused number (refused m out n) done
refused_by (Ok a) e h m out n fields number q done = absurd (false_true h.0)
refused_by (Err x) e h m out n fields number q done =
    let same : number_of x ≡ number_of e = ap number_of h.1 in
    refused_end m out (replicate n 0) number (number_of x) done (same ∙ q) (numbered_from_one x)

-- ---- what the work left

-- the fields of a verdict
short_is : (v : Option ShortEntry) → short_fields v ≡ book.verdict_fields (book_verdict v)
short_is None = refl
short_is (Some e) = refl

-- s₁ and t₁ are those of the network that the code judged
module _ (s t s₁ t₁ : List ℕ) (same : (s₁ ≡ s) × (t₁ ≡ t)) where
  pub looked_up : (u z failed u₁ z₁ : ℕ) (l : Lookup) → 0 ≡ lookup_refusal (memory s t) u z failed → u₁ ≡ u → z₁ ≡ z
      → book_lookup l ≡ looked.lookup s₁ t₁ failed u₁ z₁ → leaves (memory s t) (lookup_fields (Ok l)) ≡ lookup_call (memory s t) u z failed
  unfolding lookup_call
  looked_up u z failed u₁ z₁ l q p p' e =
      let found : book_lookup l ≡ looked.lookup s t failed u z = cc (e, same.0, same.1, p, p') in
      taken_end _ 0 _ _ _ q refl (work_left _ _ _ _ _ _ refl refl (ap book.lookup_fields found))

  pub counted : (failed : ℕ) (counts : List ℕ) → 0 ≡ state_refusal (memory s t) → counts ≡ survey_counts s₁ t₁ failed
      → leaves (memory s t) (survey_fields (Ok counts)) ≡ survey_call (memory s t) failed
  unfolding survey_call
  counted failed counts q e =
      let found : counts ≡ survey_counts s t failed = cc (e, same.0, same.1) in
      taken_end _ 0 _ _ _ q refl (work_left _ _ _ _ _ _ refl refl found)

  pub judged_short : (v : Option ShortEntry) → 0 ≡ verdict_refusal (memory s t) → book_verdict v ≡ judged.verdict s₁ t₁
      → leaves (memory s t) (verdict_fields (Ok v)) ≡ verdict_call (memory s t)
  unfolding verdict_call
  judged_short v q e =
      let found : book_verdict v ≡ judged.verdict s t = cc (e, same.0, same.1) in
      taken_end _ 0 _ _ _ q refl (work_left _ _ _ _ _ _ refl refl (short_is v ∙ ap book.verdict_fields found))

  pub written : (version : ℕ) (out out₁ : List ℕ) (n : ℕ) → 0 ≡ write_refusal (memory s t) version out
      → (out₁ ≡ image_of version s₁ t₁ ++ drop (length (image_of version s₁ t₁)) out) × (n ≡ length (image_of version s₁ t₁))
      → writes (memory s t) out₁ (0 ∷ n ∷ []) ≡ write_call (memory s t) version out
  unfolding write_call
  written version out out₁ n q e =
      let list : out₁ ≡ image_of version s t ++ drop (length (image_of version s t)) out = cc (e.0, same.0, same.1) in
      let long : n ≡ length (image_of version s t) = cc (e.1, same.0, same.1) in
      taken_end _ 0 _ _ _ q refl (work_left _ _ _ _ _ _ refl list (ap (λ (n : ℕ). n ∷ []) long))

-- what a delivery left
pub delivered_to : (s t : List ℕ) (x y x₁ y₁ : ℕ) (o : Outcome) → x₁ ≡ x → y₁ ≡ y → o ≡ took_delivery s t x₁ y₁ (delivery s t x₁ y₁)
    → o ≡ taken (delivered s t x y (delivery s t x y)) [] (book.delivery_fields (delivery s t x y))
unfolding took_delivery
delivered_to s t x y x₁ y₁ o p q e =
    e ∙ ap₂ (λ (x y : ℕ). taken (delivered s t x y (delivery s t x y)) [] (book.delivery_fields (delivery s t x y))) p q

-- what a filling left: the tables, the output and the length of the list
pub filled_is : (s t t₁ out out₁ : List ℕ) (n k : ℕ) (f : Filling) → t₁ ≡ f.tables → out₁ ≡ f.list ++ drop (length f.list) out → n ≡ length f.list
    → k ≡ n / 4 → writes (memory s t₁) out₁ (0 ∷ k ∷ []) ≡ filled_by (memory s t) out f
unfolding filled_by taken
filled_is s t t₁ out out₁ n k f a b c d = cc

-- the check of a trace answers its refusal and place at either end
pub trace_done : (s t trace fields : List ℕ) → fields ≡ traced.answer_of s t trace (trace_refusal (memory s t) trace)
    → leaves (memory s t) fields ≡ trace_call (memory s t) trace
trace_done s t trace fields e =
    ap (λ (fields : List ℕ). leaves (memory s t) fields) e
    ∙ sym (trace_is (memory s t) trace)

-- ---- what the work asks

module _ (m : Memory) where
  abbrev s : List ℕ
  s = m.state

  abbrev t : List ℕ
  t = m.tables

  pub founds : (b d K id : ℕ) → 0 ≡ found_refusal m b d K id → (state_length ≤ length s) × ((tables_length ≤ length t) × (d ≤ 8))
  founds b d K id e =
      let k = found_taken m b d K id (sym e) in
      (k.long.state, (k.long.tables, k.range.digits_most))

  pub begins : (id g : ℕ) → 0 ≡ begin_refusal m id g → Begins s t
  begins id g e =
      let k = begin_taken m id g (sym e) in
      record { state = k.0.long.state; tables = k.0.long.tables; digits = k.0.settings.digits_most; room = k.1.room }

  pub withdraws : (x : ℕ) → 0 ≡ withdraw_refusal m x → Sound s t
  withdraws x e = (withdraw_taken m x (sym e)).0

  pub delivers : (x y x₁ y₁ : ℕ) → 0 ≡ deliver_refusal m x y → x₁ ≡ x → y₁ ≡ y → Sound s t × CanDeliver s x₁ y₁
  delivers x y x₁ y₁ e p q =
      let k = deliver_taken m x y (sym e) in
      (k.0, rw p (rw q k.1))

  pub fills : (out : List ℕ) → 0 ≡ fill_refusal m out → Steady s t × (length (filling s t).list ≤ length out)
  fills out e = fill_taken m out (sym e)

-- a version that is one fits a byte
module _ (s t s₁ t₁ : List ℕ) (same : (s₁ ≡ s) × (t₁ ≡ t)) (v : ℕ) (out : List ℕ) (e : 0 ≡ write_refusal (memory s t) v out) where
  version_byte : (eqb v 1 ≡ true) ⊎ (eqb v 2 ≡ true) → v < 256
  version_byte (inl q) = omega (arith, eqb-true v 1 q)
  version_byte (inr q) = omega (arith, eqb-true v 2 q)

  pub writes_image : (v < 256) × (length (image_of v s₁ t₁) ≤ length out)
  writes_image =
      let k = write_taken (memory s t) v out (sym e) in
      (version_byte (or_cases (eqb v 1) (eqb v 2) k.version), rw same.0 (rw same.1 k.fits))
