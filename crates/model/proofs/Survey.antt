-- Laws of the survey: in a sound state each pair is in one of its counts for 1 to d hops or among the lost. Assumes
-- nothing.
use Prim.Native.Nat.{ℕ, zero, suc, ◌+◌, ◌-◌, ◌*◌, ◌≤◌, ◌<◌}
use mathlib.Core.Path.{◌≡◌, refl, sym, ap, ap₂, subst, ◌∙◌}
use mathlib.Core.Logic.{◌≢◌, ◌⊎◌, inl, inr}
use mathlib.Core.Bool.{Bool, true, false, cond, not, ◌&&◌, and-false, and_comm}
use mathlib.Core.List.{List}
use native.Mathlib.Decide.{ℕ_discrete}
use native.Mathlib.Omega.{arith}
use lib.Dec.{eqb}
use lib.ListN.{length, get_or}
use borrow.Author.Tests.{eqb-true, eq-eqb, ne_eqb}
use Rattle.model.specs.Loops.{count_below, sum_below, node}
use Rattle.model.specs.Memory.{digits, node_count, has_node}
use Rattle.model.specs.Nodes.{count_nodes}
use Rattle.model.specs.Lookup.{answer_of, last_of, lookup, very_hops, end_failed}
use Rattle.model.specs.Survey.{arrives_in, is_lost, is_pair, of_pair, pairs_from, count_pairs, hop_pairs, lost_pairs, survey_counts}
use Rattle.model.proofs.Bools.{true_or_false, and_right, and_intro}
use Rattle.model.proofs.Loops.{count_le, count_none, count_same}
use Rattle.model.proofs.Counting.{count_split}
use Rattle.model.proofs.Status.{IsNode}
use Rattle.model.proofs.Sound.{Sound}
use Rattle.model.proofs.Lookup.{Step, arrives, loses, hops, step_of, loses_is, lookup_hop, hops_bound}
use Rattle.model.proofs.Sums.{bit, count_sum, sum_where, sum_none, sum_le, sum_parts, count_parts, count_only}

-- ---- a pair of nodes

-- how the lookup between two different nodes ends
pub data Ends (s t : List ℕ) (failed u z : ℕ) : Type 0 where
  arrived : (lookup s t failed u z).arrived ≡ 1 → 1 ≤ (lookup s t failed u z).hops → (lookup s t failed u z).hops ≤ digits s → Ends s t failed u z
  lost : (lookup s t failed u z).arrived ≡ 0 → Ends s t failed u z

-- it has arrived or not
pub one_or_none : (s t : List ℕ) (failed u z : ℕ) → ((lookup s t failed u z).arrived ≡ 1) ⊎ ((lookup s t failed u z).arrived ≡ 0)
unfolding lookup answer_of
one_or_none s t failed u z = go (eqb (last_of (very_hops s t failed u z)) z)
  where
    go : (b : Bool) → (bit b ≡ 1) ⊎ (bit b ≡ 0)
    go true = inl refl
    go false = inr refl

module _ (s t : List ℕ) (S : Sound s t) (failed u z : ℕ) (nu : IsNode s u) (nz : IsNode s z) where
  -- it does not arrive without a hop
  pub some_hop : u ≢ z → (lookup s t failed u z).arrived ≡ 1 → 1 ≤ (lookup s t failed u z).hops
  some_hop ne a = go (step_of s t failed u z)
    where
      go : Step s t failed u z → 1 ≤ (lookup s t failed u z).hops
      go (arrives e) = absurd (ne e)
      go (loses e q) = let w : (lookup s t failed u z).arrived ≡ 0 = rw (loses_is s t failed u z e q) refl in absurd (omega arith)
      go (hops e q) = rw (lookup_hop s t S failed z nz u nu e q) (omega arith)

  pub ends : u ≢ z → Ends s t failed u z
  ends ne = go (one_or_none s t failed u z)
    where
      go : ((lookup s t failed u z).arrived ≡ 1) ⊎ ((lookup s t failed u z).arrived ≡ 0) → Ends s t failed u z
      go (inl a) = arrived a (some_hop ne a) (omega (arith, hops_bound s t S failed z nz u nu))
      go (inr l) = lost l

  -- a lookup that arrived took its own number of hops and no other
  arrives_once : (lookup s t failed u z).arrived ≡ 1 → 1 ≤ (lookup s t failed u z).hops → (lookup s t failed u z).hops ≤ digits s
      → count_below (digits s) (λ k. arrives_in s t failed (k + 1) u z) ≡ 1
  unfolding arrives_in
  arrives_once a low high =
      let h : ℕ = (lookup s t failed u z).hops in
      let e : h ≡ h - 1 + 1 = omega arith in
      count_only (digits s) _ (h - 1) (omega arith) (ap₂ ◌&&◌ (eq-eqb _ 1 a) (eq-eqb h _ e))
      (λ k l q. let w : h ≡ k + 1 = eqb-true h (k + 1) (and_right (eqb (lookup s t failed u z).arrived 1) _ q) in omega arith)

  -- and one that is lost did not arrive in any
  lost_none : (lookup s t failed u z).arrived ≡ 0 → (h : ℕ) → arrives_in s t failed h u z ≡ false
  unfolding arrives_in
  lost_none l h = rw (l)

  -- so a pair is counted once, and nothing else is
  pair_once : sum_below (digits s) (λ k. bit (of_pair failed (arrives_in s t failed (k + 1)) u z)) + bit (of_pair failed (is_lost s t failed) u z)
      ≡ bit (is_pair failed u z)
  unfolding is_lost is_pair
  pair_once = go (ℕ_discrete u z) (end_failed failed u z)
    where
      different : u ≢ z → Ends s t failed u z
          → sum_below (digits s) (λ k. bit (arrives_in s t failed (k + 1) u z)) + bit (is_lost s t failed u z) ≡ 1
      different ne (arrived a low high) =
          rw (a) (omega (arith, count_sum (digits s) (λ k. arrives_in s t failed (k + 1) u z), arrives_once a low high))
      different ne (lost l) =
          rw (l) (omega (arith, sum_none (digits s) (λ k. bit (arrives_in s t failed (k + 1) u z)) (λ k h. ap bit (lost_none l (k + 1)))))

      none : sum_below (digits s) (λ k. 0) + 0 ≡ 0
      none = omega (arith, sum_none (digits s) (λ k. 0) (λ k l. refl))

      go : Dec (u ≡ z) → (f : Bool)
          → sum_below (digits s) (λ k. bit ((not (eqb u z) && not f) && arrives_in s t failed (k + 1) u z)) + bit ((not (eqb u z) && not f) && is_lost s t failed u z)
          ≡ bit (not (eqb u z) && not f)
      go (yes e) f = rw (eq-eqb u z e) none
      go (no ne) true = rw (ne_eqb u z ne) none
      go (no ne) false = rw (ne_eqb u z ne) (different ne (ends ne))

-- ---- all pairs

-- u has not failed
abbrev is_left : ℕ → ℕ → Bool
is_left failed u = not (has_node failed u)

-- how many nodes have not failed
abbrev not_failed : List ℕ → ℕ → ℕ
not_failed s failed = count_nodes s (is_left failed)

-- a node that has not failed makes pairs with the others that have not; another makes none
from_one : (s : List ℕ) (failed u : ℕ) → IsNode s u → count_nodes s (is_pair failed u) ≡ cond (is_left failed u) (not_failed s failed - 1) 0
unfolding is_pair
from_one s failed u nu = go (true_or_false (has_node failed u))
  where
    apart : has_node failed u ≡ false → (z : ℕ) → is_pair failed u z ≡ (is_left failed z && not (eqb u z))
    apart f z = rw (f) (and_comm (not (eqb u z)) (is_left failed z))

    itself : has_node failed u ≡ false → count_below (node_count s) (λ k. is_left failed (k + 1) && eqb u (k + 1)) ≡ 1
    itself f =
        let e : u - 1 + 1 ≡ u = omega (arith, nu.low) in
        count_only (node_count s) _ (u - 1) (omega (arith, nu.low, nu.high))
        (subst (λ (v : ℕ). (is_left failed v && eqb u v) ≡ true) (sym e) (and_intro _ _ (ap not f) (eq-eqb u u refl)))
        (λ k l q. let w : u ≡ k + 1 = eqb-true u (k + 1) (and_right (is_left failed (k + 1)) _ q) in omega arith)

    go : (has_node failed u ≡ true) ⊎ (has_node failed u ≡ false) → count_nodes s (is_pair failed u) ≡ cond (is_left failed u) (not_failed s failed - 1) 0
    go (inl f) = rw (f) (count_none (node_count s) _ (λ k l. rw (f) (and-false (not (eqb u (k + 1))))))
    go (inr f) =
        rw (f)
        (count_same (node_count s) _ _ (λ k l. apart f (k + 1))
        ∙ omega (arith, itself f, count_split (node_count s) (node (is_left failed)) (node (eqb u))))

module _ (s t : List ℕ) (S : Sound s t) (failed : ℕ) where
  from_each : (u : ℕ) → IsNode s u
      → sum_below (digits s) (λ k. pairs_from s failed (arrives_in s t failed (k + 1)) u) + pairs_from s failed (is_lost s t failed) u
      ≡ cond (is_left failed u) (not_failed s failed - 1) 0
  from_each u nu =
      count_parts (digits s) (node_count s) (λ k. node (of_pair failed (arrives_in s t failed (k + 1)) u)) (node (of_pair failed (is_lost s t failed) u)) (node (is_pair failed u))
      (λ j l. pair_once s t S failed u (j + 1) nu (record { low = omega arith; high = omega arith }))
      ∙ from_one s failed u nu

  -- all counts together are a (a − 1) for the a nodes that have not failed
  pub survey_total : sum_below (digits s) (node (hop_pairs s t failed)) + lost_pairs s t failed ≡ not_failed s failed * (not_failed s failed - 1)
  unfolding count_pairs
  survey_total =
      sum_parts (digits s) (node_count s) (λ k. node (pairs_from s failed (arrives_in s t failed (k + 1)))) (node (pairs_from s failed (is_lost s t failed)))
      (λ k. cond (is_left failed (k + 1)) (not_failed s failed - 1) 0) (λ j l. from_each (j + 1) (record { low = omega arith; high = omega arith }))
      ∙ sum_where (node_count s) (not_failed s failed - 1) (node (is_left failed))

  -- no pair arrives in more than d hops
  pub none_beyond : (h : ℕ) → digits s < h → hop_pairs s t failed h ≡ 0
  unfolding count_pairs arrives_in
  none_beyond h far =
      sum_none (node_count s) _
      (λ j l.
      count_none (node_count s) _
      (λ k g.
      let b = hops_bound s t S failed (k + 1) (record { low = omega arith; high = omega arith }) (j + 1) (record { low = omega arith; high = omega arith }) in
      let ne : (lookup s t failed (j + 1) (k + 1)).hops ≢ h = λ e. omega (arith, b) in
      rw (ne_eqb (lookup s t failed (j + 1) (k + 1)).hops h ne, and-false (eqb (lookup s t failed (j + 1) (k + 1)).arrived 1), and-false (is_pair failed (j + 1) (k + 1)))))

-- no count is above n times n
pub pairs_most : (s : List ℕ) (failed : ℕ) (f : ℕ → ℕ → Bool) → count_pairs s failed f ≤ node_count s * node_count s
unfolding count_pairs
pairs_most s failed f = sum_le (node_count s) (node_count s) _ (λ k l. count_le (node_count s) _)

-- ---- what the call answers

-- the count for k + 1 hops
pub counted_at : (s t : List ℕ) (failed k : ℕ) → k < 8 → get_or (survey_counts s t failed) k 0 ≡ hop_pairs s t failed (k + 1)
unfolding survey_counts
counted_at s t failed zero l = refl
counted_at s t failed (suc zero) l = refl
counted_at s t failed (suc (suc zero)) l = refl
counted_at s t failed (suc (suc (suc zero))) l = refl
counted_at s t failed (suc (suc (suc (suc zero)))) l = refl
counted_at s t failed (suc (suc (suc (suc (suc zero))))) l = refl
counted_at s t failed (suc (suc (suc (suc (suc (suc zero)))))) l = refl
counted_at s t failed (suc (suc (suc (suc (suc (suc (suc zero))))))) l = refl
counted_at s t failed (suc (suc (suc (suc (suc (suc (suc (suc k)))))))) l = absurd (omega arith)

pub lost_at : (s t : List ℕ) (failed : ℕ) → get_or (survey_counts s t failed) 8 0 ≡ lost_pairs s t failed
unfolding survey_counts
lost_at s t failed = refl

pub survey_length : (s t : List ℕ) (failed : ℕ) → length (survey_counts s t failed) ≡ 9
unfolding survey_counts
survey_length s t failed = refl
