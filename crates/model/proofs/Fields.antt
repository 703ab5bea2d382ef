-- How large the fields of an answer are: below 256, but for the length of a written image, the number of additions of a filling, and the
-- counts of a survey, which are at most 4,096. Assumes nothing.
use Prim.Native.Nat.{ℕ, zero, suc, ◌*◌, ◌≤◌, ◌<◌}
use mathlib.Core.Path.{◌≡◌, refl, sym, subst}
use mathlib.Core.Logic.{◌⊎◌, inl, inr}
use mathlib.Core.Bool.{Bool, true, false, cond}
use mathlib.Core.List.{List, [], ◌∷◌, ◌++◌}
use native.Mathlib.Nat.{mul-le-mul}
use native.Mathlib.Omega.{arith}
use lib.Dec.{eqb}
use lib.ListN.{length, get_or, replicate}
use borrow.Author.Tests.{eq-eqb}
use Rattle.model.specs.Loops.{first_below, node}
use Rattle.model.specs.Nodes.{first_node}
use Rattle.model.specs.Memory.{Memory, base, digits, node_count, in_system}
use Rattle.model.specs.Join.{delivery}
use Rattle.model.specs.Lookup.{lookup}
use Rattle.model.specs.Survey.{count_pairs, survey_counts}
use Rattle.model.specs.Consistency.{consistent, node_short, level_short, entry_short, first_short, verdict}
use Rattle.model.specs.Traces.{path_count, place_count, step_count, place_named, step_allowed, in_paths, first_fault}
use Rattle.model.specs.Refusals.{Sentence, first_true, state_sentences, trace_sentences, state_refusal, begin_refusal, deliver_refusal, lookup_refusal, verdict_refusal, fill_refusal, trace_refusal, trace_place}
use Rattle.model.specs.Calls.{Outcome, refused_at, refused, taken, unless_refused, verdict_fields, begin_call, deliver_call, lookup_call, survey_call, verdict_call, filled_by, fill_call, trace_call}
use Rattle.model.proofs.Refusals.{numbered, sentences_below}
use Rattle.model.proofs.Calls.{either_end, taken_zero}
use Rattle.model.proofs.Loops.{first_le}
use Rattle.model.proofs.Status.{IsNode}
use Rattle.model.proofs.Sound.{Sound}
use Rattle.model.proofs.DeliveryDid.{delivery_small}
use Rattle.model.proofs.Lookup.{arrives_is, loses_is, lookup_hop, hops_bound, walk}
use Rattle.model.proofs.Survey.{one_or_none, pairs_most}
use Rattle.model.proofs.Taken.{state_taken, begin_taken, deliver_taken, lookup_taken, verdict_taken, fill_taken}
use Rattle.model.proofs.Traces.{trace_counts, fault, refused_9, refused_23, by_refusal, trace_place_none, trace_answer}

-- each field is below n
unfoldable pub Below : ℕ → List ℕ → Type 0
Below n [] = Unit
Below n (field ∷ fields) = (field < n) × Below n fields

abbrev pub Bytes : List ℕ → Type 0
Bytes fields = Below 256 fields

pub below_at : (n : ℕ) (fields : List ℕ) → 0 < n → Below n fields → (k : ℕ) → get_or fields k 0 < n
unfolding Below
below_at n [] some b k = some
below_at n (field ∷ fields) some (b, more) zero = b
below_at n (field ∷ fields) some (b, more) (suc k) = below_at n fields some more k

-- ---- refused or taken

zeros : (n k : ℕ) → 256 ≤ n → Below n (replicate k 0)
unfolding Below
zeros n zero big = _
zeros n (suc k) big = (omega arith, zeros n k big)

below_unless : (n : ℕ) → 256 ≤ n → (m : Memory) (out : List ℕ) (cs : List Sentence) (k : ℕ) (done : Outcome) → numbered cs ≡ true
    → (first_true cs ≡ 0 → Below n done.answer) → Below n (unless_refused (first_true cs) (refused m out k) done).answer
unfolding Below refused_at
below_unless n big m out cs k done g f =
    either_end (λ (o : Outcome). Below n o.answer) (first_true cs) (refused m out k) done (λ nz. (omega (arith, sentences_below cs g), zeros n k big)) f

bytes_unless : (m : Memory) (out : List ℕ) (cs : List Sentence) (k : ℕ) (done : Outcome) → numbered cs ≡ true → (first_true cs ≡ 0 → Bytes done.answer)
    → Bytes (unless_refused (first_true cs) (refused m out k) done).answer
bytes_unless = below_unless 256 (omega arith)

bit_below : (b : Bool) → cond b 1 0 < 256
bit_below true = omega arith
bit_below false = omega arith

-- ---- the answers

pub begin_bytes : (m : Memory) (id g : ℕ) → Bytes (begin_call m id g).answer
unfolding Below begin_refusal begin_call taken numbered
begin_bytes m id g =
    bytes_unless m [] _ 1 _ refl (λ z. let c = begin_taken m id g z in (omega arith, (omega (arith, c.1.room), _)))

pub deliver_bytes : (m : Memory) (x y : ℕ) → Bytes (deliver_call m x y).answer
unfolding Below deliver_refusal deliver_call taken numbered
deliver_bytes m x y =
    bytes_unless m [] _ 3 _ refl
    (λ z.
    let c = deliver_taken m x y z in
    let d = delivery_small m.state m.tables c.0 x y c.1 in
    (omega arith, (d.0, (d.1, (bit_below (eqb (delivery m.state m.tables x y).sender.status in_system), _)))))

-- a lookup ends at a node
ends : (s t : List ℕ) → Sound s t → (failed z : ℕ) → IsNode s z → (u : ℕ) → IsNode s u → (lookup s t failed u z).last ≤ node_count s
ends s t S failed z nz =
    walk s t S failed z nz (λ (u : ℕ). (lookup s t failed u z).last ≤ node_count s) (λ u nu e. rw (arrives_is s t failed u z e) nu.high)
    (λ u nu e q. rw (loses_is s t failed u z e q) nu.high)
    (λ u nu e q ih. rw (lookup_hop s t S failed z nz u nu e q) ih)

-- and has arrived or not
arrived_below : (s t : List ℕ) (failed u z : ℕ) → (lookup s t failed u z).arrived < 256
arrived_below s t failed u z = go (one_or_none s t failed u z)
  where
    go : ((lookup s t failed u z).arrived ≡ 1) ⊎ ((lookup s t failed u z).arrived ≡ 0) → (lookup s t failed u z).arrived < 256
    go (inl e) = omega arith
    go (inr e) = omega arith

pub lookup_bytes : (m : Memory) (u z failed : ℕ) → Bytes (lookup_call m u z failed).answer
unfolding Below lookup_refusal lookup_call taken numbered
lookup_bytes m u z failed =
    bytes_unless m [] _ 3 _ refl
    (λ q.
    let c = lookup_taken m u z failed q in
    let e = ends m.state m.tables c.0 failed z c.2 u c.1 in
    let h = hops_bound m.state m.tables c.0 failed z c.2 u c.1 in
    let few : node_count m.state ≤ 64 = c.0.few in
    let most : digits m.state ≤ 8 = c.0.settings.digits_most in
    (omega arith, (arrived_below m.state m.tables failed u z, (omega (arith, h, most), (omega (arith, e, few), _)))))

judged_bytes : (s t : List ℕ) → Sound s t → Bytes (verdict_fields (verdict s t))
unfolding Below verdict first_short
judged_bytes s t S = go (consistent s t)
  where
    x : ℕ
    x = first_node s (node_short s t)

    i : ℕ
    i = first_below (digits s) (level_short s t x)

    go : (b : Bool) → Bytes (verdict_fields (cond b (record { consistent = 1; node = 0; level = 0; digit = 0 }) (first_short s t)))
    go true = (omega arith, (omega arith, (omega arith, (omega arith, _))))
    go false =
        let n : first_below (node_count s) (node (node_short s t)) ≤ node_count s = first_le (node_count s) _ in
        let l : first_below (digits s) (level_short s t x) ≤ digits s = first_le (digits s) _ in
        let j : first_below (base s) (entry_short s t x i) ≤ base s = first_le (base s) _ in
        let few : node_count s ≤ 64 = S.few in
        let most : digits s ≤ 8 = S.settings.digits_most in
        let broad : base s ≤ 16 = S.settings.base_most in
        (omega arith, (omega (arith, n, few), (omega (arith, l, most), (omega (arith, j, broad), _))))

pub verdict_bytes : (m : Memory) → Bytes (verdict_call m).answer
unfolding Below verdict_refusal verdict_call taken numbered
verdict_bytes m =
    bytes_unless m [] _ 4 _ refl (λ z. (omega arith, judged_bytes m.state m.tables (verdict_taken m z).0))

-- ---- a trace

-- where a test first fails, in fewer than 256 paths of at most 9 places
fault_bytes : (n : ℕ) (size : ℕ → ℕ) (test : ℕ → ℕ → Bool) → n < 256 → ((p : ℕ) → p < n → size p ≤ 9) → in_paths n size test ≡ false
    → Bytes (first_fault n size test)
unfolding Below
fault_bytes n size test few short e =
    let f = fault n size test e in
    subst Bytes (sym f.is) (omega (arith, f.path_in), (omega (arith, f.index_in, short f.path f.path_in), _))

-- the count of paths is a byte
pub trace_bytes : (m : Memory) (trace : List ℕ) → path_count trace < 256 → Bytes (trace_call m trace).answer
unfolding Below trace_refusal trace_place numbered
trace_bytes m trace few =
    subst Bytes (sym (trace_answer m trace)) (
      sentences_below (state_sentences m ++ trace_sentences m trace) refl,
      by_refusal m trace (λ (n : ℕ). Bytes (trace_place m trace n))
          (λ e.
          let r = refused_9 m trace e in
          fault_bytes (path_count trace) (place_count trace) (place_named m.state trace) few (λ p l. ((trace_counts trace r.0).counts p l).1) r.1)
          (λ e.
          let r = refused_23 m trace e in
          fault_bytes (path_count trace) (step_count trace) (step_allowed m.state m.tables trace) few
          (λ p l. omega (arith, ((trace_counts trace r.1).counts p l).1)) r.3)
          (λ n a b. subst Bytes (sym (trace_place_none m trace n a b)) (omega arith, (omega arith, _))),
    )

-- ---- a survey

module _ (m : Memory) (failed : ℕ) where
  -- 64 times 64
  pairs_few : Sound m.state m.tables → (f : ℕ → ℕ → Bool) → count_pairs m.state failed f < 4097
  pairs_few S f =
      let most : node_count m.state * node_count m.state ≤ 4096 = mul-le-mul S.few S.few in
      omega (arith, pairs_most m.state failed f)

  pub survey_few : Below 4097 (survey_call m failed).answer
  unfolding Below survey_call survey_counts state_refusal taken numbered
  survey_few =
      below_unless 4097 (omega arith) m [] _ 9 _ refl
      (λ z.
      let few = pairs_few (state_taken m z) in
      (omega arith, (few _, (few _, (few _, (few _, (few _, (few _, (few _, (few _, (few _, _)))))))))))

  -- and what is taken was counted on a sound state
  pub survey_sound : get_or (survey_call m failed).answer 0 0 ≡ 0 → Sound m.state m.tables
  unfolding survey_call
  survey_sound e = state_taken m (taken_zero m (state_refusal m) [] _ _ (eq-eqb _ 0 e))

-- ---- filling

-- four bytes for each addition that it answers fit the output
pub additions_fit : (m : Memory) (out : List ℕ) → 4 * get_or (fill_call m out).answer 1 0 ≤ length out
unfolding fill_call filled_by refused_at taken
additions_fit m out =
    either_end (λ (o : Outcome). 4 * get_or o.answer 1 0 ≤ length out) (fill_refusal m out) (refused m out 1) _ (λ nz. omega arith)
    (λ z. let l = (fill_taken m out z).1 in omega (arith, l))
