-- Where none has failed the calls are those without failed nodes. Assumes nothing.
use Prim.Native.Nat.{ℕ, zero, suc, ◌+◌}
use mathlib.Core.Path.{◌≡◌, refl, sym, ap, ap₂, ◌∙◌}
use mathlib.Core.Logic.{◌≢◌}
use mathlib.Core.Bool.{Bool, false, not, ◌||◌, and-true}
use mathlib.Core.List.{List, [], ◌∷◌}
use native.Mathlib.Omega.{arith}
use lib.Dec.{eqb}
use borrow.Author.Tests.{eq-eqb, ne_eqb}
use Rattle.model.specs.Memory.{Memory, digits, node_count}
use Rattle.model.specs.Lookup.{Lookup, next_hop, very_hops_within, answer_of, lookup, end_failed}
use Rattle.model.specs.Survey.{arrives_in, is_lost, is_pair, count_pairs, survey_counts}
use Rattle.model.specs.Refusals.{first_true, lookup_refusal, state_refusal}
use Rattle.model.specs.Calls.{refused, taken, lookup_fields, lookup_call, survey_call}
use Rattle.model.proofs.Loops.{count_same, sum_same}
use Rattle.model.proofs.Sets.{has_none}
use Rattle.model.proofs.Status.{IsNode}
use Rattle.model.proofs.Sound.{Sound}
use Rattle.model.proofs.NextHop.{hop_first}
use Rattle.model.proofs.Lookup.{Step, arrives, loses, hops, step_of, arrives_path, loses_path, hops_path, hop_node}
use Rattle.model.proofs.Taken.{state_taken, lookup_taken}
use Rattle.model.proofs.Calls.{unless_same}
use Rattle.promise.specs.NoneFailed.{first_hop, first_hops_within, by_first, by_first_refusal, by_first_call, pairs_where, arrived_in, was_lost, counts_by_first, survey_by_first_call, NoneFailed}
use Rattle.promise.proofs.Failures.{lookup_zero}

-- ---- the very hops

module _ (s t : List ℕ) (S : Sound s t) (z : ℕ) (nz : IsNode s z) where
  first_next : (u : ℕ) → IsNode s u → u ≢ z → (next_hop s t 0 u z).node ≡ first_hop s t u z
  unfolding first_hop
  first_next u nu ne = hop_first s t S u z nu nz ne

  first_path : (n u : ℕ) → IsNode s u → very_hops_within n s t 0 u z ≡ first_hops_within n s t u z
  unfolding very_hops_within first_hops_within
  first_path zero u nu = refl
  first_path (suc n) u nu = go (λ v nv. first_path n v nv) (step_of s t 0 u z)
    where
      go : ((v : ℕ) → IsNode s v → very_hops_within n s t 0 v z ≡ first_hops_within n s t v z) → Step s t 0 u z
          → very_hops_within (suc n) s t 0 u z ≡ first_hops_within (suc n) s t u z
      go ih (arrives e) = arrives_path n s t 0 u z e ∙ sym (rw (eq-eqb u z e))
      go ih (loses ne q) =
          loses_path n s t 0 u z ne q ∙ sym (rw (ne_eqb u z ne, eq-eqb (first_hop s t u z) 0 (sym (first_next u nu ne) ∙ q)))
      go ih (hops ne q) =
          hops_path n s t 0 u z ne q
          ∙ ap (◌∷◌ u) (ih (next_hop s t 0 u z).node (hop_node s t S 0 u z nu nz ne q).0)
          ∙ ap (λ (v : ℕ). u ∷ first_hops_within n s t v z) (first_next u nu ne)
          ∙ sym (rw (ne_eqb u z ne, ne_eqb (first_hop s t u z) 0 (λ e. q (first_next u nu ne ∙ e))))

  same_lookup : (u : ℕ) → IsNode s u → lookup s t 0 u z ≡ by_first s t u z
  unfolding lookup by_first
  same_lookup u nu = ap (answer_of z) (first_path (suc (digits s)) u nu)

-- ---- the refusals, and the calls

none_end : (u z : ℕ) → end_failed 0 u z ≡ false
none_end u z = ap₂ ◌||◌ (has_none u) (has_none z)

same_refusal : (m : Memory) (u z : ℕ) → lookup_refusal m u z 0 ≡ by_first_refusal m u z
unfolding lookup_refusal by_first_refusal first_true
same_refusal m u z = rw (none_end u z)

lookup_as_first : (m : Memory) (u z : ℕ) → lookup_call m u z 0 ≡ by_first_call m u z
unfolding lookup_call
lookup_as_first m u z =
    sym
    (unless_same (lookup_refusal m u z 0) (by_first_refusal m u z) (refused m [] 3) _ _ (sym (same_refusal m u z))
    (λ e.
    let k = lookup_taken m u z 0 e in
    ap (λ (r : Lookup). taken m [] (lookup_fields r)) (sym (same_lookup m.state m.tables k.0 z k.2 u k.1))))

-- ---- the survey

module _ (s t : List ℕ) (S : Sound s t) where
  pairs_as_first : (f : ℕ → ℕ → Bool) (test : Lookup → Bool) → ((u z : ℕ) → f u z ≡ test (lookup s t 0 u z)) → count_pairs s 0 f ≡ pairs_where s t test
  unfolding count_pairs pairs_where is_pair
  pairs_as_first f test is =
      sum_same (node_count s) _ _
      (λ j l.
      count_same (node_count s) _ _
      (λ k h.
      let nu : IsNode s (j + 1) = record { low = omega arith; high = omega arith } in
      let nz : IsNode s (k + 1) = record { low = omega arith; high = omega arith } in
      rw (none_end (j + 1) (k + 1), is (j + 1) (k + 1), same_lookup s t S (k + 1) nz (j + 1) nu, and-true (not (eqb (j + 1) (k + 1))))))

  same_counts : survey_counts s t 0 ≡ counts_by_first s t
  unfolding survey_counts counts_by_first arrives_in is_lost
  same_counts = cc (in_hops 1, in_hops 2, in_hops 3, in_hops 4, in_hops 5, in_hops 6, in_hops 7, in_hops 8, pairs_as_first (is_lost s t 0) was_lost (λ u z. refl))
    where
      in_hops : (h : ℕ) → count_pairs s 0 (arrives_in s t 0 h) ≡ pairs_where s t (arrived_in h)
      in_hops h = pairs_as_first (arrives_in s t 0 h) (arrived_in h) (λ u z. refl)

survey_as_first : (m : Memory) → survey_call m 0 ≡ survey_by_first_call m
unfolding survey_call
survey_as_first m =
    unless_same (state_refusal m) (state_refusal m) (refused m [] 9) _ _ refl
    (λ e. ap (taken m []) (same_counts m.state m.tables (state_taken m e)))

pub none_failed : NoneFailed
none_failed = record {
  lookups = lookup_as_first;
  surveys = survey_as_first;
  hops = λ m u z e.
      let k = lookup_taken m u z 0 (lookup_zero m u z 0 e) in
      first_path m.state m.tables k.0 z k.2 (suc (digits m.state)) u k.1;
}
