-- A trace is refused by 1 or 2, or by what the trace itself decides. Assumes nothing.
use Prim.Native.Nat.{ℕ, ◌<◌}
use mathlib.Core.Path.{◌≡◌, refl, sym, ap, ap₂, ◌∙◌}
use mathlib.Core.Logic.{◌≢◌}
use mathlib.Core.Bool.{true, false}
use mathlib.Core.List.{List, [], ◌∷◌}
use native.Mathlib.Omega.{arith}
use Rattle.std.specs.Prelude.{Result, Ok, Err, IsErr, IsErrAnd}
use Rattle.model.specs.Memory.{Memory}
use Rattle.model.specs.Refusals.{trace_sentences, state_sentences, state_refusal, trace_refusal}
use Rattle.model.proofs.Refusals.{numbered, lacks, lacking, sentences_refused, sentences_later}
use Rattle.model.proofs.Traces.{trace_place_none}
use Rattle.answers.specs.Numbers.{number_of}
use Rattle.answers.specs.Fields.{trace_fields}
use Rattle.answers.specs.declared.error.Refusal.{Refusal}
use Rattle.answers.specs.declared.error.TraceRefused.{TraceRefused}
use Rattle.answers.proofs.Errors.{numbered_from_one}
use Rattle.state.specs.Lent.{memory}
use Rattle.traces.specs.Judged.{sentences_refusal, answer_of}

false_true : false ≡ true → ⊥
false_true e = Prim.cc e

-- a refusal that is about no path, as `?` hands it on
handed_fields : {A : Type 0} (r : Result A TraceRefused) (e : Refusal)
    → IsErr r × IsErrAnd r (λ (x : TraceRefused). (x.refusal ≡ e) × ((x.path ≡ 0) × (x.place ≡ 0))) → trace_fields r ≡ (number_of e ∷ 0 ∷ 0 ∷ [])
handed_fields (Ok x) e h = absurd (false_true h.0)
handed_fields (Err x) e h = cc (h.1.0, h.1.1.0, h.1.1.1)

module _ (s t trace : List ℕ) where
  abbrev m : Memory
  m = memory s t

  -- the numbers of a state's refusal are none that have a place
  no_place : (r n : ℕ) → r ≡ state_refusal m → lacks n (state_sentences m) ≡ true → 0 < n → r ≢ n
  unfolding state_refusal
  no_place r n e l h q = lacking n (state_sentences m) h l (sym e ∙ q)

  pub state_is : {A : Type 0} (r : Result A TraceRefused) (e : Refusal)
      → IsErr r × IsErrAnd r (λ (x : TraceRefused). (x.refusal ≡ e) × ((x.path ≡ 0) × (x.place ≡ 0))) → number_of e ≡ state_refusal m
      → trace_fields r ≡ answer_of s t trace (trace_refusal m trace)
  unfolding trace_refusal state_refusal lacks
  state_is r e h q =
      let n : ℕ = number_of e in
      let same : n ≡ trace_refusal m trace = sentences_refused (state_sentences m) (trace_sentences m trace) n q (numbered_from_one e) in
      handed_fields r e h
      ∙ ap (λ (place : List ℕ). n ∷ place) (sym (trace_place_none m trace n (no_place n 9 q refl (omega arith)) (no_place n 23 q refl (omega arith))))
      ∙ ap (answer_of s t trace) same

  -- of the network that the code judged
  pub trace_is : 0 ≡ state_refusal m → (s₁ t₁ : List ℕ) → (s₁ ≡ s) × (t₁ ≡ t) → (a : List ℕ) → a ≡ answer_of s₁ t₁ trace (sentences_refusal s₁ t₁ trace)
      → a ≡ answer_of s t trace (trace_refusal m trace)
  unfolding trace_refusal sentences_refusal state_refusal numbered
  trace_is q s₁ t₁ same a e =
      e ∙ ap₂ (λ (s t : List ℕ). answer_of s t trace (sentences_refusal s t trace)) same.0 same.1
      ∙ ap (answer_of s t trace) (sentences_later (state_sentences m) (trace_sentences m trace) refl 0 _ q refl refl)
