-- One pass over the pairs gives the book's counts: each pair adds one at the place of its lookup. Assumes nothing.
use Prim.Native.Nat.{ℕ, ◌+◌, ◌-◌, ◌*◌, ◌≤◌, ◌<◌}
use mathlib.Core.Path.{◌≡◌, refl, sym, ap, subst, ◌∙◌}
use mathlib.Core.Logic.{◌≢◌, ◌⊎◌, inl, inr}
use mathlib.Core.Bool.{Bool, true, false, cond, not, ◌&&◌}
use mathlib.Core.List.{List}
use native.Mathlib.Nat.{le_trans, mul-le-mul_right, add-zero}
use native.Mathlib.Decide.{ℕ_discrete, dec_lt}
use native.Mathlib.Omega.{arith}
use lib.Dec.{eqb}
use lib.ListN.{length, get_or, set, replicate, length-set, get_or-replicate}
use lib.Seq.{ext_get_or, get_or-set_same, get_or-set_other}
use borrow.Author.Tests.{eqb-true, eqb-false, eq-eqb, ne_eqb, not-true}
use Rattle.model.specs.Loops.{sum_below, each_below, node}
use Rattle.model.specs.Memory.{digits, node_count}
use Rattle.model.specs.Lookup.{Lookup, lookup, next_hop, end_failed}
use Rattle.model.specs.Nodes.{suffix_of}
use Rattle.model.specs.Survey.{arrives_in, is_lost, is_pair, of_pair, pairs_from, count_pairs, survey_counts}
use Rattle.model.proofs.Bools.{true_or_false, same_test, and_left}
use Rattle.model.proofs.Loops.{count_le, count_same, sum_same, each_leads}
use Rattle.model.proofs.Sums.{bit, bits, count_sum, sum_le}
use Rattle.model.proofs.Status.{IsNode}
use Rattle.model.proofs.Sound.{Sound}
use Rattle.model.proofs.Lookup.{arrives_is, hops_bound}
use Rattle.model.proofs.Survey.{Ends, arrived, lost, ends, some_hop, counted_at, lost_at, survey_length}
use Rattle.routing.proofs.Hops.{Hop, loses_here, next_node, falls, hop_is}
use Rattle.hop_survey.specs.Counted.{Room, place_of, count_at, count_pair, count_from}

-- ---- counts that rose

-- C has nine places, each with as much more than C₀ as a says
pub record Rose (C₀ C : List ℕ) (a : ℕ → ℕ) : Type 0 where
  pub long : length C ≡ 9
  pub by : (p : ℕ) → p < 9 → get_or C p 0 ≡ get_or C₀ p 0 + a p

-- step after step
each_rose : (n : ℕ) (step : ℕ → List ℕ → List ℕ) (a : ℕ → ℕ → ℕ) (C : List ℕ) → length C ≡ 9
    → ((k : ℕ) (X : List ℕ) → k < n → length X ≡ 9 → Rose X (step k X) (λ p. a p k))
    → Rose C (each_below n step C) (λ p. sum_below n (a p))
unfolding sum_below
each_rose n step a C long one =
    each_leads (λ (k : ℕ) (X : List ℕ). Rose C X (λ p. sum_below k (a p))) n step C
    (record { long = long; by = λ p l. sym (add-zero (get_or C p 0)) })
    (λ k X l r.
    let w = one k X l r.long in
    record { long = w.long; by = λ p h. let e = w.by p h in let f = r.by p h in omega (arith, e, f) })

-- ---- a pair

module _ (failed u z : ℕ) where
  pair_apart : is_pair failed u z ≡ true → u ≢ z
  unfolding is_pair
  pair_apart e = eqb-false u z (not-true _ (and_left _ _ e))

  -- what the tests of a pair say
  pub pair_itself : u ≡ z → not (eqb u z) ≡ is_pair failed u z
  unfolding is_pair
  pair_itself e = rw (eq-eqb u z e)

  pub pair_left : u ≢ z → (r : Bool) → r ≡ end_failed failed u z → not r ≡ is_pair failed u z
  unfolding is_pair
  pair_left ne r e = rw (ne_eqb u z ne, e)

-- the lookup from u to z is counted at place p
abbrev lands : List ℕ → List ℕ → ℕ → ℕ → ℕ → ℕ → Bool
lands s t failed p u z = eqb (place_of (lookup s t failed u z)) p

module _ (C : List ℕ) (long : length C ≡ 9) (q p : ℕ) where
  at_rose : q < 9 → Dec (q ≡ p) → get_or (count_at q C) p 0 ≡ get_or C p 0 + bit (eqb q p)
  at_rose l (yes e) = rw (eq-eqb q p e) (ap (λ (i : ℕ). get_or (count_at q C) i 0) (sym e) ∙ get_or-set_same C q _ 0 (omega arith) ∙ ap (λ (i : ℕ). get_or C i 0 + 1) e)
  at_rose l (no ne) = rw (ne_eqb q p ne) (get_or-set_other C q p _ 0 (λ e. ne (sym e)) ∙ sym (add-zero (get_or C p 0)))

module _ (s t : List ℕ) (S : Sound s t) (failed u z : ℕ) (nu : IsNode s u) (nz : IsNode s z) where
  pub place_below : place_of (lookup s t failed u z) < 9
  unfolding place_of
  place_below = go (eqb (lookup s t failed u z).arrived 1)
    where
      go : (b : Bool) → cond b ((lookup s t failed u z).hops - 1) 8 < 9
      go true = omega (arith, hops_bound s t S failed z nz u nu, S.settings.digits_most)
      go false = omega arith

  pair_rose : (C : List ℕ) → length C ≡ 9 → Rose C (count_pair s t failed u z C) (λ p. bit (of_pair failed (lands s t failed p) u z))
  unfolding count_pair
  pair_rose C long = go (is_pair failed u z)
    where
      q : ℕ
      q = place_of (lookup s t failed u z)

      go : (b : Bool) → Rose C (cond b (count_at q C) C) (λ p. bit (b && lands s t failed p u z))
      go true = record { long = length-set C q (get_or C q 0 + 1) ∙ long; by = λ p l. at_rose C long q p place_below (ℕ_discrete q p) }
      go false = record { long = long; by = λ p l. sym (add-zero (get_or C p 0)) }

  -- the places are those of the book's tests
  lands_in : u ≢ z → (p : ℕ) → p < 8 → lands s t failed p u z ≡ arrives_in s t failed (p + 1) u z
  unfolding place_of arrives_in
  lands_in ne p l = go (ends s t S failed u z nu nz ne)
    where
      go : Ends s t failed u z → lands s t failed p u z ≡ arrives_in s t failed (p + 1) u z
      go (arrived a low high) = rw (a) (same_test _ _ (λ e. eq-eqb _ _ (there e)) (λ e. eq-eqb _ _ (back e)))
        where
          there : eqb ((lookup s t failed u z).hops - 1) p ≡ true → (lookup s t failed u z).hops ≡ p + 1
          there e = omega (arith, low, eqb-true _ p e)

          back : eqb (lookup s t failed u z).hops (p + 1) ≡ true → (lookup s t failed u z).hops - 1 ≡ p
          back e = omega (arith, eqb-true _ (p + 1) e)
      go (lost e) = rw (e) (ne_eqb 8 p (λ q. omega arith))

  lands_lost : u ≢ z → lands s t failed 8 u z ≡ is_lost s t failed u z
  unfolding place_of is_lost
  lands_lost ne = go (ends s t S failed u z nu nz ne)
    where
      go : Ends s t failed u z → lands s t failed 8 u z ≡ is_lost s t failed u z
      go (arrived a low high) = rw (a) (ne_eqb ((lookup s t failed u z).hops - 1) 8 (λ q. omega (arith, S.settings.digits_most)))
      go (lost e) = rw (e)

-- ---- the pairs from a node, and all pairs

node_at : (s : List ℕ) (k n : ℕ) → k < n → n ≤ node_count s → IsNode s (k + 1)
node_at s k n l h = record { low = omega arith; high = omega arith }

module _ (s t : List ℕ) (S : Sound s t) (failed : ℕ) where
  module _ (u : ℕ) (nu : IsNode s u) where
    -- the pairs with the first n nodes
    some_rose : (n : ℕ) → n ≤ node_count s → (C : List ℕ) → length C ≡ 9
        → Rose C (each_below n (node (count_pair s t failed u)) C) (λ p. sum_below n (bits (node (of_pair failed (lands s t failed p) u))))
    some_rose n h C long =
        each_rose n _ (λ p. bits (node (of_pair failed (lands s t failed p) u))) C long (λ k X l. pair_rose s t S failed u (k + 1) nu (node_at s k n l h) X)

    pub some_room : (n : ℕ) → n ≤ node_count s → (C : List ℕ) → Room 4096 C → Room 4160 (each_below n (node (count_pair s t failed u)) C)
    some_room n h C r =
        let w = some_rose n h C r.long in
        record {
          long = w.long;
          few = λ p l.
              omega (arith, w.by p l, r.few p l, S.few, h, count_sum n (node (of_pair failed (lands s t failed p) u)), count_le n (node (of_pair failed (lands s t failed p) u)));
        }

    from_rose : (C : List ℕ) → length C ≡ 9 → Rose C (count_from s t failed u C) (λ p. pairs_from s failed (lands s t failed p) u)
    unfolding count_from
    from_rose C long =
        let w = some_rose (node_count s) (omega arith) C long in
        record { long = w.long; by = λ p l. w.by p l ∙ ap (◌+◌ (get_or C p 0)) (sym (count_sum (node_count s) (node (of_pair failed (lands s t failed p) u)))) }

  -- the pairs from the first n nodes
  rows_rose : (n : ℕ) → n ≤ node_count s
      → Rose (replicate 9 0) (each_below n (node (count_from s t failed)) (replicate 9 0)) (λ p. sum_below n (node (pairs_from s failed (lands s t failed p))))
  rows_rose n h =
      each_rose n _ (λ p. node (pairs_from s failed (lands s t failed p))) (replicate 9 0) refl (λ k X l. from_rose (k + 1) (node_at s k n l h) X)

  none : (p : ℕ) → p < 9 → get_or {A = ℕ} (replicate 9 0) p 0 ≡ 0
  none p l = get_or-replicate 9 p 0 0 l

  pub rows_room : (n : ℕ) → n ≤ node_count s → Room 4096 (each_below n (node (count_from s t failed)) (replicate 9 0))
  rows_room n h =
      let w = rows_rose n h in
      record {
        long = w.long;
        few = λ p l.
            let most : n * 64 ≤ 4096 = mul-le-mul_right 64 (le_trans h S.few) in
            omega (arith, w.by p l, none p l, most, sum_le n 64 (node (pairs_from s failed (lands s t failed p))) (λ k g. le_trans (count_le (node_count s) _) S.few));
      }

  -- the counts of two tests that agree of different nodes
  same_pairs : (f g : ℕ → ℕ → Bool) → ((u z : ℕ) → IsNode s u → IsNode s z → u ≢ z → f u z ≡ g u z)
      → sum_below (node_count s) (node (pairs_from s failed f)) ≡ count_pairs s failed g
  unfolding count_pairs
  same_pairs f g same =
      sum_same (node_count s) _ _
      (λ j l. count_same (node_count s) _ _ (λ k h. go (j + 1) (k + 1) (node_at s j (node_count s) l (omega arith)) (node_at s k (node_count s) h (omega arith)) (true_or_false (is_pair failed (j + 1) (k + 1)))))
    where
      go : (u z : ℕ) → IsNode s u → IsNode s z → (is_pair failed u z ≡ true) ⊎ (is_pair failed u z ≡ false) → of_pair failed f u z ≡ of_pair failed g u z
      go u z nu nz (inl e) = rw (e) (same u z nu nz (pair_apart failed u z e))
      go u z nu nz (inr e) = rw (e)

  pub rows_are : (C : List ℕ) → C ≡ each_below (node_count s) (node (count_from s t failed)) (replicate 9 0) → C ≡ survey_counts s t failed
  rows_are C e = e ∙ ext_get_or 0 _ _ (w.long ∙ sym nine) (λ p l. place p (subst (λ (n : ℕ). p < n) w.long l))
    where
      w : Rose (replicate 9 0) (each_below (node_count s) (node (count_from s t failed)) (replicate 9 0)) (λ p. sum_below (node_count s) (node (pairs_from s failed (lands s t failed p))))
      w = rows_rose (node_count s) (omega arith)

      counted : (p : ℕ) → p < 9
          → get_or (each_below (node_count s) (node (count_from s t failed)) (replicate 9 0)) p 0 ≡ sum_below (node_count s) (node (pairs_from s failed (lands s t failed p)))
      counted p l = omega (arith, w.by p l, none p l)

      at : (p : ℕ) → p < 9 → Dec (p < 8)
          → sum_below (node_count s) (node (pairs_from s failed (lands s t failed p))) ≡ get_or (survey_counts s t failed) p 0
      at p l (yes h) =
          same_pairs (lands s t failed p) (arrives_in s t failed (p + 1)) (λ u z nu nz ne. lands_in s t S failed u z nu nz ne p h) ∙ sym (counted_at s t failed p h)
      at p l (no g) =
          let e : p ≡ 8 = omega arith in
          ap (λ (p : ℕ). sum_below (node_count s) (node (pairs_from s failed (lands s t failed p)))) e
          ∙ same_pairs (lands s t failed 8) (is_lost s t failed) (λ u z nu nz ne. lands_lost s t S failed u z nu nz ne)
          ∙ sym (lost_at s t failed)
          ∙ ap (λ (p : ℕ). get_or (survey_counts s t failed) p 0) (sym e)

      place : (p : ℕ) → p < 9 → get_or (each_below (node_count s) (node (count_from s t failed)) (replicate 9 0)) p 0 ≡ get_or (survey_counts s t failed) p 0
      place p l = counted p l ∙ at p l (dec_lt p 8)

      nine : length (survey_counts s t failed) ≡ 9
      nine = survey_length s t failed

-- ---- what the functions answer

-- the lookup from u to z has come to node v after h hops
pub record Along (s t : List ℕ) (failed u z h v : ℕ) : Type 0 where
  pub node : IsNode s v
  pub arrived : (lookup s t failed u z).arrived ≡ (lookup s t failed v z).arrived
  pub hops : (lookup s t failed u z).hops ≡ h + (lookup s t failed v z).hops

pub along_none : (s t : List ℕ) (failed u z : ℕ) → IsNode s u → Along s t failed u z 0 u
along_none s t failed u z nu = record { node = nu; arrived = refl; hops = omega arith }

module _ (s t : List ℕ) (S : Sound s t) (failed u z h v : ℕ) (nu : IsNode s u) (nz : IsNode s z) (along : Along s t failed u z h v) where
  pub few_hops : h ≤ 8
  few_hops = omega (arith, along.hops, hops_bound s t S failed z nz u nu, S.settings.digits_most)

  pub along_lost : v ≢ z → (next_hop s t failed v z).node ≡ 0 → 8 ≡ place_of (lookup s t failed u z)
  unfolding place_of
  along_lost ne e = rw (along.arrived, ← loses_here s t failed v z ne e)

  module _ (w : ℕ) (hop : Hop s t failed v z w) where
    pub along_hop : Along s t failed u z (h + 1) w
    along_hop =
        let further = hop_is s t failed v z w hop in
        record {
          node = next_node s t failed v z w hop;
          arrived = along.arrived ∙ ap (λ (r : Lookup). r.arrived) further;
          hops = omega (arith, along.hops, ap (λ (r : Lookup). r.hops) further);
        }

    pub along_falls : digits s - suffix_of s w z < digits s - suffix_of s v z
    along_falls = falls s t failed v z w hop

  module _ (there : v ≡ z) where
    pub along_some : u ≢ z → 1 ≤ h
    along_some ne =
        let a : (lookup s t failed u z).arrived ≡ 1 = along.arrived ∙ ap (λ (r : Lookup). r.arrived) (arrives_is s t failed v z there) in
        let none : (lookup s t failed v z).hops ≡ 0 = ap (λ (r : Lookup). r.hops) (arrives_is s t failed v z there) in
        omega (arith, along.hops, some_hop s t S failed u z nu nz ne a)

    pub along_ends : h - 1 ≡ place_of (lookup s t failed u z)
    unfolding place_of
    along_ends =
        let e : (lookup s t failed u z).hops ≡ h = along.hops ∙ ap (λ (r : Lookup). h + r.hops) (arrives_is s t failed v z there) ∙ add-zero h in
        rw (along.arrived, arrives_is s t failed v z there, e)

-- r is the answer whether u and z are a pair
module _ (failed u z : ℕ) (r : Bool) (pair : r ≡ is_pair failed u z) where
  pub pair_differ : r ≡ true → u ≢ z
  pair_differ e = pair_apart failed u z (sym pair ∙ e)

  module _ (s t : List ℕ) (C : List ℕ) where
    pub pair_none : r ≡ false → C ≡ count_pair s t failed u z C
    unfolding count_pair
    pair_none e = rw (← pair, e)

    pub pair_counted : r ≡ true → (q : ℕ) → q ≡ place_of (lookup s t failed u z) → set C q (get_or C q 0 + 1) ≡ count_pair s t failed u z C
    unfolding count_pair
    pair_counted e q p = rw (← pair, e) (ap (λ (q : ℕ). count_at q C) p)

pub from_counted : (s t : List ℕ) (failed u : ℕ) (C X : List ℕ) → X ≡ each_below (node_count s) (node (count_pair s t failed u)) C → X ≡ count_from s t failed u C
unfolding count_from
from_counted s t failed u C X e = e
