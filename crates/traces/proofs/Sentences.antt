-- What refuses a trace, by what the walk found. Assumes nothing.
use Prim.Native.Nat.{ℕ, ◌+◌, ◌≤◌, ◌<◌}
use mathlib.Core.Path.{◌≡◌, refl, sym, ap, ap₂, subst, ◌∙◌}
use mathlib.Core.Logic.{◌≢◌, ◌⊎◌, inl, inr}
use mathlib.Core.Bool.{true, false, not}
use mathlib.Core.List.{List, [], ◌∷◌}
use native.Mathlib.Omega.{arith}
use lib.ListN.{length}
use Rattle.std.specs.Prelude.{None, Some}
use Rattle.model.specs.Memory.{Memory}
use Rattle.model.specs.Image.{byte_at}
use Rattle.model.specs.Traces.{path_count, path_start, place_count, step_count, trace_counts_wrong, place_named, step_allowed, places_named, steps_allowed}
use Rattle.model.specs.Refusals.{first_true, trace_place}
use Rattle.model.proofs.Bools.{true_or_false}
use Rattle.model.proofs.Refusals.{sentence_leaves, sentence_goes, sentence_none}
use Rattle.model.proofs.Traces.{TraceCounts, trace_counts, trace_counts_of, trace_place_none}
use Rattle.state.specs.Lent.{memory}
use Rattle.trace_reading.specs.Read.{CountRight}
use Rattle.traces.specs.Faults.{fault_in}
use Rattle.traces.specs.Judged.{sentences_refusal, answer_of}
use Rattle.traces.specs.Walked.{Walked}
use Rattle.traces.specs.declared.cursor.Cursor.{Cursor}
use Rattle.traces.specs.declared.fault.Fault.{Fault}
use Rattle.traces.proofs.Faults.{none_fails, some_fails, fault_first}
use Rattle.traces.proofs.Walks.{start_next, start_rises}

-- ---- the counts

module _ (trace : List ℕ) where
  -- wrong, where right ones would be absurd
  wrong : (TraceCounts trace → ⊥) → trace_counts_wrong trace ≡ true
  wrong h = go (true_or_false (trace_counts_wrong trace))
    where
      go : (trace_counts_wrong trace ≡ true) ⊎ (trace_counts_wrong trace ≡ false) → trace_counts_wrong trace ≡ true
      go (inl e) = e
      go (inr e) = absurd (h (trace_counts trace e))

  pub empty_wrong : length trace ≡ 0 → trace_counts_wrong trace ≡ true
  empty_wrong e = wrong (λ r. omega (arith, r.some, e))

module _ (s t trace : List ℕ) (c : Cursor) (W : Walked s t trace c) where
  -- a path whose count is wrong, or that the trace does not hold
  pub path_wrong : c.path < path_count trace → (CountRight trace c.at → ⊥) → trace_counts_wrong trace ≡ true
  path_wrong l h =
      wrong trace
      (λ r.
      let here : c.path < path_count trace = l in
      let n = subst (λ (at : ℕ). (1 ≤ byte_at trace at) × (byte_at trace at ≤ 9)) (sym W.at) (r.counts c.path l) in
      let e : byte_at trace c.at ≡ place_count trace c.path = ap (byte_at trace) W.at in
      h
      (record {
        least = n.0;
        most = n.1;
        within = omega (arith, W.at, e, r.ends, start_next trace c.path, start_rises trace (c.path + 1) (path_count trace) (omega arith));
      }))

  module _ (all : c.path ≡ path_count trace) where
    at_end : c.at ≡ path_start trace (path_count trace)
    at_end = W.at ∙ ap (path_start trace) all

    pub length_wrong : c.at ≢ length trace → trace_counts_wrong trace ≡ true
    length_wrong ne = wrong trace (λ r. ne (at_end ∙ sym r.ends))

    pub counts_right : c.at ≡ length trace → trace_counts_wrong trace ≡ false
    unfolding path_start
    counts_right e =
        trace_counts_of trace
        (record {
          some = omega (arith, e, W.at, start_rises trace 0 c.path (omega arith));
          counts = λ p l. W.counts p (omega (arith, l, all));
          ends = sym e ∙ at_end;
        })

-- ---- the answers: n is the refusal's number, p and k are its path and place

module _ (s t trace : List ℕ) where
  abbrev m : Memory
  m = memory s t

  answer_is : (number n p k : ℕ) → number ≡ sentences_refusal s t trace → n ≡ number → p ∷ k ∷ [] ≡ trace_place m trace number
      → n ∷ p ∷ k ∷ [] ≡ answer_of s t trace (sentences_refusal s t trace)
  answer_is number n p k e en q = ap₂ (λ (n : ℕ) (l : List ℕ). n ∷ l) en q ∙ ap (answer_of s t trace) e

  -- one that is about no path
  nowhere : (p k : ℕ) → p ≡ 0 → k ≡ 0 → p ∷ k ∷ [] ≡ 0 ∷ 0 ∷ []
  nowhere p k ep ek = ap₂ (λ (p k : ℕ). p ∷ k ∷ []) ep ek

  pub says_22 : (n p k : ℕ) → trace_counts_wrong trace ≡ true → n ≡ 22 → p ≡ 0 → k ≡ 0
      → n ∷ p ∷ k ∷ [] ≡ answer_of s t trace (sentences_refusal s t trace)
  unfolding sentences_refusal
  says_22 n p k w en ep ek =
      answer_is 22 n p k (sentence_leaves (trace_counts_wrong trace) 22 _ true (sym w) refl) en
      (nowhere p k ep ek ∙ sym (trace_place_none m trace 22 (λ e. omega (arith, e)) (λ e. omega (arith, e))))

  -- the cursor c is behind the last path, where the trace ends
  module _ (c : Cursor) (W : Walked s t trace c) (all : c.path ≡ path_count trace) (e : c.at ≡ length trace) where
    unnamed : c.unnamed ≡ fault_in (path_count trace) (place_count trace) (place_named s trace)
    unnamed = W.unnamed ∙ ap (λ (n : ℕ). fault_in n (place_count trace) (place_named s trace)) all

    past_22 : (n : ℕ) → n ≡ first_true ((not (places_named s trace), 9) ∷ (not (steps_allowed s t trace), 23) ∷ []) → n ≡ sentences_refusal s t trace
    unfolding sentences_refusal
    past_22 n q = sentence_goes (trace_counts_wrong trace) 22 _ n false (sym (counts_right s t trace c W all e)) refl q

    module _ (f : Fault) (some : c.unnamed ≡ Some f) where
      pub says_9 : (n p k : ℕ) → n ≡ 9 → p ≡ f.path → k ≡ f.place → n ∷ p ∷ k ∷ [] ≡ answer_of s t trace (sentences_refusal s t trace)
      unfolding trace_place
      says_9 n p k en ep ek =
          let first = sym unnamed ∙ some in
          answer_is 9 n p k
          (past_22 9 (sentence_leaves _ 9 _ true (sym (ap not (some_fails _ _ (path_count trace) f first))) refl)) en
          (ap₂ (λ (p k : ℕ). p ∷ k ∷ []) ep ek ∙ fault_first _ _ (path_count trace) f first)

    module _ (none : c.unnamed ≡ None) where
      forbidden : c.forbidden ≡ fault_in (path_count trace) (step_count trace) (step_allowed s t trace)
      forbidden = W.forbidden none ∙ ap (λ (n : ℕ). fault_in n (step_count trace) (step_allowed s t trace)) all

      past_9 : (n : ℕ) → n ≡ first_true ((not (steps_allowed s t trace), 23) ∷ []) → n ≡ sentences_refusal s t trace
      past_9 n q =
          past_22 n
          (sentence_goes _ 9 _ n false (sym (ap not (none_fails _ _ (path_count trace) (sym unnamed ∙ none)))) refl q)

      module _ (f : Fault) (some : c.forbidden ≡ Some f) where
        pub says_23 : (n p k : ℕ) → n ≡ 23 → p ≡ f.path → k ≡ f.place → n ∷ p ∷ k ∷ [] ≡ answer_of s t trace (sentences_refusal s t trace)
        unfolding trace_place
        says_23 n p k en ep ek =
            let first = sym forbidden ∙ some in
            answer_is 23 n p k
            (past_9 23 (sentence_leaves _ 23 _ true (sym (ap not (some_fails _ _ (path_count trace) f first))) refl)) en
            (ap₂ (λ (p k : ℕ). p ∷ k ∷ []) ep ek ∙ fault_first _ _ (path_count trace) f first)

      pub says_none : c.forbidden ≡ None → 0 ∷ 0 ∷ 0 ∷ [] ≡ answer_of s t trace (sentences_refusal s t trace)
      says_none allowed =
          answer_is 0 0 0 0
          (past_9 0
          (sentence_goes _ 23 _ 0 false (sym (ap not (none_fails _ _ (path_count trace) (sym forbidden ∙ allowed)))) refl sentence_none)) refl
          (sym (trace_place_none m trace 0 (λ q. omega (arith, q)) (λ q. omega (arith, q))))
