-- Laws of gathering: what is new in the set stands in the table and is to be notified, and all that stands there and is to be notified is in it.
-- Assumes nothing.
use Prim.Native.Nat.{ℕ, ◌^◌, ◌≤◌, ◌<◌}
use mathlib.Core.Path.{◌≡◌, sym, ap, ◌∙◌}
use mathlib.Core.Logic.{◌≢◌, ◌⊎◌, inl, inr, ⊎_elim}
use mathlib.Core.Bool.{Bool, true, false, not, cond}
use mathlib.Core.List.{List}
use native.Mathlib.Omega.{arith}
use lib.ListN.{get_or}
use lib.Dec.{leb, eqb}
use borrow.Author.Tests.{eqb-false, ne_eqb, leb-true, le-leb, not-true}
use Rattle.model.specs.Memory.{has_node, add_node}
use Rattle.model.specs.Nodes.{suffix_of}
use Rattle.model.specs.Join.{to_notify, gather_place, gather}
use Rattle.model.proofs.Bools.{true_or_false, and_intro, parts}
use Rattle.model.proofs.Loops.{each_keeps, each_does}
use Rattle.model.proofs.Sets.{has_added, has_add, add_keeps, add_within}

-- x is to notify u
pub record ToNotify (s : List ℕ) (x k notified u : ℕ) : Type 0 where
  pub some : u ≢ 0
  pub other : u ≢ x
  pub suffix : k ≤ suffix_of s x u
  pub new : has_node notified u ≡ false

-- the test says so, both ways
to_notify_lem : (s : List ℕ) (x k notified u : ℕ) → to_notify s x k notified u ≡ true → ToNotify s x k notified u
to_notify_lem s x k notified u e = record {
  some = eqb-false u 0 (not-true _ (search parts));
  other = eqb-false u x (not-true _ (search parts));
  suffix = leb-true k (suffix_of s x u) (search parts);
  new = not-true _ (search parts);
}

to_notify_of : (s : List ℕ) (x k notified u : ℕ) → ToNotify s x k notified u → to_notify s x k notified u ≡ true
to_notify_of s x k notified u n =
    let some : not (eqb u 0) ≡ true = ap not (ne_eqb u 0 n.some) in
    let other : not (eqb u x) ≡ true = ap not (ne_eqb u x n.other) in
    let suffix : leb k (suffix_of s x u) ≡ true = le-leb k (suffix_of s x u) n.suffix in
    let new : not (has_node notified u) ≡ true = ap not n.new in
    search and_intro

-- v stands in the table and is to be notified
pub record Gathered (s : List ℕ) (x k notified : ℕ) (T : List ℕ) (v : ℕ) : Type 0 where
  pub place : ℕ
  pub within : place < 512
  pub stands : get_or T place 0 ≡ v
  pub to_notify : ToNotify s x k notified v

module _ (s : List ℕ) (x k notified : ℕ) (T : List ℕ) where
  -- a place leaves the set as it was, or adds its node
  place_cases : (p nodes : ℕ) → (gather_place s x k notified T p nodes ≡ nodes)
      ⊎ (ToNotify s x k notified (get_or T p 0) × (gather_place s x k notified T p nodes ≡ add_node nodes (get_or T p 0)))
  place_cases p nodes = go (true_or_false (to_notify s x k notified (get_or T p 0)))
    where
      went : (b : Bool) → to_notify s x k notified (get_or T p 0) ≡ b → gather_place s x k notified T p nodes ≡ cond b (add_node nodes (get_or T p 0)) nodes
      went b e = ap (λ (b : Bool). cond b (add_node nodes (get_or T p 0)) nodes) e

      go : (to_notify s x k notified (get_or T p 0) ≡ true) ⊎ (to_notify s x k notified (get_or T p 0) ≡ false)
          → (gather_place s x k notified T p nodes ≡ nodes)
          ⊎ (ToNotify s x k notified (get_or T p 0) × (gather_place s x k notified T p nodes ≡ add_node nodes (get_or T p 0)))
      go (inl e) = inr (to_notify_lem s x k notified (get_or T p 0) e, went true e)
      go (inr e) = inl (went false e)

  -- it leaves it where the node is not to be notified, and adds one that is
  pub place_passes : (p nodes : ℕ) → (ToNotify s x k notified (get_or T p 0) → ⊥) → gather_place s x k notified T p nodes ≡ nodes
  place_passes p nodes never = ⊎_elim (λ e. e) (λ c. absurd (never c.0)) (place_cases p nodes)

  pub place_adds : (p nodes : ℕ) → ToNotify s x k notified (get_or T p 0) → gather_place s x k notified T p nodes ≡ add_node nodes (get_or T p 0)
  place_adds p nodes n = rw (to_notify_of s x k notified (get_or T p 0) n)

  pub gather_has : (nodes v : ℕ) → 1 ≤ v → has_node (gather s x k notified T nodes) v ≡ true
      → (has_node nodes v ≡ true) ⊎ Gathered s x k notified T v
  unfolding gather
  gather_has nodes v l =
      each_keeps (λ (a : ℕ). has_node a v ≡ true → (has_node nodes v ≡ true) ⊎ Gathered s x k notified T v) 512
      (gather_place s x k notified T) nodes (λ h. inl h)
      (λ p a q ih h.
      ⊎_elim (λ e. ih (sym (ap (λ (a : ℕ). has_node a v) e) ∙ h))
      (λ c. ⊎_elim (λ e. inr (found p q e c.0)) ih (has_add a (get_or T p 0) v (omega (arith, c.0.some)) l (sym (ap (λ (a : ℕ). has_node a v) c.1) ∙ h)))
      (place_cases p a))
    where
      found : (p : ℕ) → p < 512 → v ≡ get_or T p 0 → ToNotify s x k notified (get_or T p 0) → Gathered s x k notified T v
      found p q e n = record { place = p; within = q; stands = sym e; to_notify = rw e n }

  pub gather_within : (nodes n : ℕ) → nodes < 2 ^ n → ((p : ℕ) → p < 512 → get_or T p 0 ≤ n) → gather s x k notified T nodes < 2 ^ n
  unfolding gather
  gather_within nodes n l h =
      each_keeps (λ (a : ℕ). a < 2 ^ n) 512 (gather_place s x k notified T) nodes l
      (λ p a q b.
      ⊎_elim (λ e. rw e b) (λ c. rw c.1 (add_within a n (get_or T p 0) b (omega (arith, c.0.some)) (h p q))) (place_cases p a))

  -- a place keeps what was in the set
  place_keeps : (p nodes v : ℕ) → 1 ≤ v → has_node nodes v ≡ true → has_node (gather_place s x k notified T p nodes) v ≡ true
  place_keeps p nodes v l h =
      ⊎_elim (λ e. rw e h) (λ c. rw c.1 (add_keeps nodes (get_or T p 0) v (omega (arith, c.0.some)) l h)) (place_cases p nodes)

  -- each node of the table that x is to notify is in the set then
  pub gather_takes : (nodes p : ℕ) → p < 512 → ToNotify s x k notified (get_or T p 0)
      → has_node (gather s x k notified T nodes) (get_or T p 0) ≡ true
  unfolding gather
  gather_takes nodes p l n =
      each_does (λ (a : ℕ). Unit {0}) (λ (a : ℕ). has_node a (get_or T p 0) ≡ true) 512 (gather_place s x k notified T) nodes tt (λ i a g q. tt) p l
      (λ a q. rw (place_adds p a n) (has_added a (get_or T p 0))) (λ i a g q. place_keeps i a (get_or T p 0) (omega (arith, n.some)))

  -- and what was in it stays
  pub gather_keeps : (nodes v : ℕ) → 1 ≤ v → has_node nodes v ≡ true → has_node (gather s x k notified T nodes) v ≡ true
  unfolding gather
  gather_keeps nodes v l h =
      each_keeps (λ (a : ℕ). has_node a v ≡ true) 512 (gather_place s x k notified T) nodes h (λ p a g. place_keeps p a v l)
