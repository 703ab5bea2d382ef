-- Traces: the tests of a trace as statements and back, where a test first fails, what the refusals of a trace say, and its answer. Assumes nothing.
use Prim.Native.Nat.{ℕ, ◌+◌, ◌≤◌, ◌<◌}
use mathlib.Core.Path.{◌≡◌, refl, sym, ap, ap₂, subst, ◌∙◌}
use mathlib.Core.Logic.{◌≢◌}
use mathlib.Core.Bool.{Bool, true, false, cond, not, ◌||◌}
use mathlib.Core.List.{List, [], ◌∷◌, ◌++◌}
use native.Mathlib.Decide.{ℕ_discrete}
use native.Mathlib.Omega.{arith}
use lib.Dec.{leb, eqb}
use lib.ListN.{length, get_or, take}
use borrow.Author.Tests.{eqb-true, eqb-false, eq-eqb, ne_eqb, leb-true, le-leb, not-true, not-false}
use Rattle.model.specs.Loops.{all_below, first_below}
use Rattle.model.specs.Memory.{Memory}
use Rattle.model.specs.Lookup.{hop_entry}
use Rattle.model.specs.Traces.{path_count, path_start, place_count, place_at, destination, step_count, count_right, trace_counts_wrong, place_named, among, may_go, step_allowed, in_path, in_paths, first_fault, places_named, steps_allowed}
use Rattle.model.specs.Refusals.{Sentence, state_sentences, trace_sentences, trace_refusal, trace_place}
use Rattle.model.specs.Calls.{Outcome, refused_at, taken, trace_call}
use Rattle.model.proofs.Bools.{and_left, and_right, and_intro, or_none_left, or_none_right}
use Rattle.model.proofs.Loops.{all_at, all_of, all_same, any_found, any_of, first_before, first_holds, first_fails, first_same}
use Rattle.model.proofs.Status.{IsNode, is_node_lem, is_node_of}
use Rattle.model.proofs.Sound.{Sound}
use Rattle.model.proofs.Refusals.{numbered, test_of, passed, free, sentence_none, lacks, stopped}
use Rattle.model.proofs.Calls.{either_end}
use Rattle.model.proofs.Taken.{sound_past, state_free}

-- ---- the counts

-- what 22 does not refuse
pub record TraceCounts (trace : List ℕ) : Type 0 where
  pub some : 1 ≤ length trace
  pub counts : (p : ℕ) → p < path_count trace → (1 ≤ place_count trace p) × (place_count trace p ≤ 9)
  pub ends : length trace ≡ path_start trace (path_count trace)

pub trace_counts : (trace : List ℕ) → trace_counts_wrong trace ≡ false → TraceCounts trace
unfolding trace_counts_wrong
trace_counts trace e =
    let some = eqb-false (length trace) 0 (or_none_left _ _ e) in
    let rest = or_none_right (eqb (length trace) 0) _ e in
    let all = all_at (path_count trace) (count_right trace) (not-false _ (or_none_left _ _ rest)) in
    record {
      some = omega (arith, some);
      counts =
          λ p l. (
            leb-true 1 (place_count trace p) (and_left _ _ (all p l)),
            leb-true (place_count trace p) 9 (and_right (leb 1 (place_count trace p)) _ (all p l)),
          );
      ends = eqb-true (length trace) _ (not-false _ (or_none_right (not (all_below (path_count trace) (count_right trace))) _ rest));
    }

pub trace_counts_of : (trace : List ℕ) → TraceCounts trace → trace_counts_wrong trace ≡ false
unfolding trace_counts_wrong
trace_counts_of trace c =
    ap₂ ◌||◌ (ne_eqb (length trace) 0 (λ e. omega (arith, c.some)))
    (ap₂ ◌||◌
    (ap not
    (all_of (path_count trace) (count_right trace)
    (λ p l. and_intro _ _ (le-leb 1 (place_count trace p) (c.counts p l).0) (le-leb (place_count trace p) 9 (c.counts p l).1))))
    (ap not (eq-eqb (length trace) _ c.ends)))

-- ---- a test in every path: at each index below the size of each of n paths

-- where it first fails, path and index counted from 0
pub record Fault (n : ℕ) (size : ℕ → ℕ) (test : ℕ → ℕ → Bool) : Type 0 where
  pub path : ℕ
  pub index : ℕ
  pub is : first_fault n size test ≡ (path + 1) ∷ (index + 1) ∷ []
  pub path_in : path < n
  pub index_in : index < size path
  pub fails : test path index ≡ false
  pub before : (k : ℕ) → k < index → test path k ≡ true
  pub earlier : (p k : ℕ) → p < path → k < size p → test p k ≡ true

module _ (n : ℕ) (size : ℕ → ℕ) (test : ℕ → ℕ → Bool) where
  -- where it holds
  pub in_paths_lem : in_paths n size test ≡ true → (p k : ℕ) → p < n → k < size p → test p k ≡ true
  unfolding in_path
  in_paths_lem e p k l h = all_at (size p) (test p) (all_at n (in_path size test) e p l) k h

  pub in_paths_of : ((p k : ℕ) → p < n → k < size p → test p k ≡ true) → in_paths n size test ≡ true
  unfolding in_path
  in_paths_of f = all_of n (in_path size test) (λ p l. all_of (size p) (test p) (λ k h. f p k l h))

  -- and where it does not
  pub fault : in_paths n size test ≡ false → Fault n size test
  unfolding in_path first_fault
  fault e =
      let p : ℕ = first_below n (λ p. not (in_path size test p)) in
      let l : p < n = first_fails n (in_path size test) e in
      let k : ℕ = first_below (size p) (λ k. not (test p k)) in
      let h : k < size p = first_fails (size p) (test p) (not-true _ (first_holds n (λ p. not (in_path size test p)) l)) in
      record {
        path = p;
        index = k;
        is = refl;
        path_in = l;
        index_in = h;
        fails = not-true _ (first_holds (size p) (λ k. not (test p k)) h);
        before = λ j g. not-false _ (first_before (size p) (λ k. not (test p k)) j g);
        earlier = λ i j g r. all_at (size i) (test i) (not-false _ (first_before n (λ p. not (in_path size test p)) i g)) j r;
      }

  -- tests that agree in every path hold together, and first fail at the same place
  module _ (test' : ℕ → ℕ → Bool) (agree : (p k : ℕ) → p < n → k < size p → test' p k ≡ test p k) where
    path_same : (p : ℕ) → p < n → in_path size test' p ≡ in_path size test p
    unfolding in_path
    path_same p l = all_same (size p) (test' p) (test p) (λ k h. agree p k l h)

    pub in_paths_same : in_paths n size test' ≡ in_paths n size test
    in_paths_same = all_same n (in_path size test') (in_path size test) path_same

    pub fault_same : in_paths n size test ≡ false → first_fault n size test' ≡ first_fault n size test
    unfolding first_fault
    fault_same e =
        let p : ℕ = first_below n (λ p. not (in_path size test p)) in
        let l : p < n = first_fails n (in_path size test) e in
        ap (λ (p : ℕ). (p + 1) ∷ (first_below (size p) (λ k. not (test' p k)) + 1) ∷ [])
        (first_same n (λ p. not (in_path size test' p)) (λ p. not (in_path size test p)) (λ p l. ap not (path_same p l)))
        ∙ ap (λ (k : ℕ). (p + 1) ∷ (k + 1) ∷ [])
        (first_same (size p) (λ k. not (test' p k)) (λ k. not (test p k)) (λ k h. ap not (agree p k l h)))

-- ---- places and steps

-- a node among others stands at some place of them
pub among_at : (nodes : List ℕ) (v : ℕ) → among nodes v ≡ true → (k : ℕ) × (k < length nodes) × (get_or nodes k 0 ≡ v)
unfolding among
among_at nodes v e =
    let f = any_found (length nodes) (λ k. eqb (get_or nodes k 0) v) e in
    (f.0, f.1, eqb-true (get_or nodes f.0 0) v f.2)

pub among_of : (nodes : List ℕ) (v k : ℕ) → k < length nodes → get_or nodes k 0 ≡ v → among nodes v ≡ true
unfolding among
among_of nodes v k l e = any_of (length nodes) (λ k. eqb (get_or nodes k 0) v) k l (eq-eqb (get_or nodes k 0) v e)

-- a path to z may go from u to v: it is not at z yet, and v stands in the entry that a lookup at u looks into
module _ (s t : List ℕ) (u v z : ℕ) where
  pub may_go_lem : may_go s t u v z ≡ true → (u ≢ z) × (k : ℕ) × (k < length (hop_entry s t u z)) × (get_or (hop_entry s t u z) k 0 ≡ v)
  unfolding may_go
  may_go_lem e =
      let a = among_at (hop_entry s t u z) v (and_right (not (eqb u z)) _ e) in
      (eqb-false u z (not-true _ (and_left _ _ e)), a.0, a.1, a.2)

  pub may_go_of : u ≢ z → (k : ℕ) → k < length (hop_entry s t u z) → get_or (hop_entry s t u z) k 0 ≡ v → may_go s t u v z ≡ true
  unfolding may_go
  may_go_of ne k l e = and_intro _ _ (ap not (ne_eqb u z ne)) (among_of (hop_entry s t u z) v k l e)

-- each place of each path has a node
abbrev pub Named : List ℕ → List ℕ → Type 0
Named s trace = (p k : ℕ) → p < path_count trace → k < place_count trace p → IsNode s (place_at trace p k)

pub places_named_lem : (s trace : List ℕ) → places_named s trace ≡ true → Named s trace
unfolding place_named
places_named_lem s trace e p k l h =
    is_node_lem s (place_at trace p k) (in_paths_lem (path_count trace) (place_count trace) (place_named s trace) e p k l h)

pub places_named_of : (s trace : List ℕ) → Named s trace → places_named s trace ≡ true
unfolding place_named
places_named_of s trace f =
    in_paths_of (path_count trace) (place_count trace) (place_named s trace) (λ p k l h. is_node_of s (place_at trace p k) (f p k l h))

-- each step of each path is one that a path may go
abbrev pub Allowed : List ℕ → List ℕ → List ℕ → Type 0
Allowed s t trace =
    (p k : ℕ) → p < path_count trace → k < step_count trace p
    → may_go s t (place_at trace p k) (place_at trace p (k + 1)) (destination trace p) ≡ true

module _ (s t trace : List ℕ) where
  pub steps_allowed_lem : steps_allowed s t trace ≡ true → Allowed s t trace
  unfolding step_allowed
  steps_allowed_lem = in_paths_lem (path_count trace) (step_count trace) (step_allowed s t trace)

  pub steps_allowed_of : Allowed s t trace → steps_allowed s t trace ≡ true
  unfolding step_allowed
  steps_allowed_of = in_paths_of (path_count trace) (step_count trace) (step_allowed s t trace)

-- ---- the refusals

module _ (m : Memory) (trace : List ℕ) where
  -- not refused
  pub trace_taken : trace_refusal m trace ≡ 0
      → Sound m.state m.tables
      × (trace_counts_wrong trace ≡ false)
      × (places_named m.state trace ≡ true)
      × (steps_allowed m.state m.tables trace ≡ true)
  unfolding trace_refusal numbered test_of
  trace_taken e =
      let p = passed _ refl e in
      (sound_past m (p 1) (p 2), p 22, not-false _ (p 9), not-false _ (p 23))

  -- and back
  pub trace_free : Sound m.state m.tables → trace_counts_wrong trace ≡ false → places_named m.state trace ≡ true
      → steps_allowed m.state m.tables trace ≡ true → trace_refusal m trace ≡ 0
  unfolding trace_refusal
  trace_free S c e f =
      state_free m _ S (free _ 22 _ c (free _ 9 _ (ap not e) (free _ 23 [] (ap not f) (sym sentence_none))))

  -- refused with 9 or 23: what the sentences before it say, and that its own test fails
  pub refused_9 : trace_refusal m trace ≡ 9 → (trace_counts_wrong trace ≡ false) × (places_named m.state trace ≡ false)
  unfolding trace_refusal lacks numbered test_of
  refused_9 e =
      let pre : List Sentence = state_sentences m ++ take 1 (trace_sentences m trace) in
      let s = stopped pre (not (places_named m.state trace)) 9 _ (omega arith) refl refl e in
      (passed pre refl s.0 22, not-true _ s.1)

  pub refused_23 : trace_refusal m trace ≡ 23
      → Sound m.state m.tables
      × (trace_counts_wrong trace ≡ false)
      × (places_named m.state trace ≡ true)
      × (steps_allowed m.state m.tables trace ≡ false)
  unfolding trace_refusal lacks numbered test_of
  refused_23 e =
      let pre : List Sentence = state_sentences m ++ take 2 (trace_sentences m trace) in
      let s = stopped pre (not (steps_allowed m.state m.tables trace)) 23 _ (omega arith) refl refl e in
      let p = passed pre refl s.0 in
      (sound_past m (p 1) (p 2), p 22, not-false _ (p 9), not-true _ s.1)

  -- what holds of 9 and of 23 where they refuse, and of every other number, holds of the refusal
  pub by_refusal : (P : ℕ → Type 0) → (trace_refusal m trace ≡ 9 → P 9) → (trace_refusal m trace ≡ 23 → P 23)
      → ((n : ℕ) → n ≢ 9 → n ≢ 23 → P n) → P (trace_refusal m trace)
  by_refusal P nine twenty_three other = go (ℕ_discrete (trace_refusal m trace) 9) (ℕ_discrete (trace_refusal m trace) 23)
    where
      go : Dec (trace_refusal m trace ≡ 9) → Dec (trace_refusal m trace ≡ 23) → P (trace_refusal m trace)
      go (yes e) q = subst P (sym e) (nine e)
      go (no a) (yes e) = subst P (sym e) (twenty_three e)
      go (no a) (no b) = other (trace_refusal m trace) a b

  -- other numbers give no place
  pub trace_place_none : (n : ℕ) → n ≢ 9 → n ≢ 23 → trace_place m trace n ≡ 0 ∷ 0 ∷ []
  unfolding trace_place
  trace_place_none n a b = rw (ne_eqb n 9 a, ne_eqb n 23 b)

  -- path and place
  pub trace_place_two : (n : ℕ) → trace_place m trace n ≡ get_or (trace_place m trace n) 0 0 ∷ get_or (trace_place m trace n) 1 0 ∷ []
  unfolding trace_place first_fault
  trace_place_two n = go (eqb n 9) (eqb n 23)
    where
      nine : List ℕ
      nine = first_fault (path_count trace) (place_count trace) (place_named m.state trace)

      twenty_three : List ℕ
      twenty_three = first_fault (path_count trace) (step_count trace) (step_allowed m.state m.tables trace)

      place : Bool → Bool → List ℕ
      place a b = cond a nine (cond b twenty_three (0 ∷ 0 ∷ []))

      go : (a b : Bool) → place a b ≡ get_or (place a b) 0 0 ∷ get_or (place a b) 1 0 ∷ []
      go true b = refl
      go false true = refl
      go false false = refl

  -- nothing changes, and the answer is the refusal and its place
  pub trace_is : trace_call m trace ≡ record { memory = m; out = []; answer = trace_refusal m trace ∷ trace_place m trace (trace_refusal m trace) }
  unfolding trace_call refused_at taken trace_place
  trace_is =
      either_end (λ (o : Outcome). o ≡ record { memory = m; out = []; answer = trace_refusal m trace ∷ trace_place m trace (trace_refusal m trace) })
      (trace_refusal m trace) _ _ (λ nz. refl)
      (λ z. ap (λ (n : ℕ). record { memory = m; out = []; answer = n ∷ trace_place m trace n }) (sym z))

  pub trace_answer : (trace_call m trace).answer ≡ trace_refusal m trace ∷ trace_place m trace (trace_refusal m trace)
  trace_answer = ap (λ (o : Outcome). o.answer) trace_is
