-- Laws of lookup in a sound state: each hop matches the destination in more digits, so a lookup ends, within d less the digits already
-- matched, and does not depend on how many steps it may take. Assumes nothing.
use Prim.Native.Nat.{ℕ, zero, suc, ◌+◌, ◌-◌, ◌≤◌, ◌<◌}
use mathlib.Core.Path.{◌≡◌, refl, sym, ap, subst, ◌∙◌}
use mathlib.Core.Logic.{◌≢◌, ◌⊎◌, inl, inr}
use mathlib.Core.Bool.{true, false, cond}
use mathlib.Core.List.{List, [], ◌∷◌}
use native.Mathlib.Omega.{arith}
use lib.Dec.{eqb}
use lib.ListN.{length, get_or}
use borrow.Author.Tests.{eqb-true, eqb-false, eq-eqb, ne_eqb}
use Rattle.model.specs.Memory.{digits, has_node}
use Rattle.model.specs.Nodes.{suffix_of}
use Rattle.model.specs.Lookup.{next_hop, very_hops_within, very_hops, Lookup, last_of, answer_of, lookup}
use Rattle.model.proofs.Bools.{true_or_false}
use Rattle.model.proofs.Status.{IsNode}
use Rattle.model.proofs.Sound.{Sound}
use Rattle.model.proofs.NextHop.{level_below, entry_hop, hop_stands, hop_left}

-- ---- the rule, one step of it

-- what a lookup from u does first: it has arrived, is lost, or hops
pub data Step (s t : List ℕ) (failed u z : ℕ) : Type 0 where
  arrives : u ≡ z → Step s t failed u z
  loses : u ≢ z → (next_hop s t failed u z).node ≡ 0 → Step s t failed u z
  hops : u ≢ z → (next_hop s t failed u z).node ≢ 0 → Step s t failed u z

pub step_of : (s t : List ℕ) (failed u z : ℕ) → Step s t failed u z
step_of s t failed u z = go (true_or_false (eqb u z)) (true_or_false (eqb (next_hop s t failed u z).node 0))
  where
    go : (eqb u z ≡ true) ⊎ (eqb u z ≡ false) → (eqb (next_hop s t failed u z).node 0 ≡ true) ⊎ (eqb (next_hop s t failed u z).node 0 ≡ false) → Step s t failed u z
    go (inl e) q = arrives (eqb-true u z e)
    go (inr e) (inl q) = loses (eqb-false u z e) (eqb-true (next_hop s t failed u z).node 0 q)
    go (inr e) (inr q) = hops (eqb-false u z e) (eqb-false (next_hop s t failed u z).node 0 q)

module _ (n : ℕ) (s t : List ℕ) (failed u z : ℕ) where
  pub arrives_path : u ≡ z → very_hops_within (suc n) s t failed u z ≡ u ∷ []
  unfolding very_hops_within
  arrives_path e = rw (eq-eqb u z e)

  pub loses_path : u ≢ z → (next_hop s t failed u z).node ≡ 0 → very_hops_within (suc n) s t failed u z ≡ u ∷ []
  unfolding very_hops_within
  loses_path e q = rw (ne_eqb u z e, eq-eqb (next_hop s t failed u z).node 0 q)

  pub hops_path : u ≢ z → (next_hop s t failed u z).node ≢ 0 → very_hops_within (suc n) s t failed u z ≡ u ∷ very_hops_within n s t failed (next_hop s t failed u z).node z
  unfolding very_hops_within
  hops_path e q = rw (ne_eqb u z e, ne_eqb (next_hop s t failed u z).node 0 q)

-- a path begins with its start
path_starts : (n : ℕ) (s t : List ℕ) (failed u z : ℕ) → (rest : List ℕ) × (very_hops_within (suc n) s t failed u z ≡ u ∷ rest)
path_starts n s t failed u z = go (step_of s t failed u z)
  where
    go : Step s t failed u z → (rest : List ℕ) × (very_hops_within (suc n) s t failed u z ≡ u ∷ rest)
    go (arrives e) = ([], arrives_path n s t failed u z e)
    go (loses e q) = ([], loses_path n s t failed u z e q)
    go (hops e q) = (very_hops_within n s t failed (next_hop s t failed u z).node z, hops_path n s t failed u z e q)

-- ---- the answer, read off the path

-- the last node of a path stands at its end
pub last_at : (path : List ℕ) → get_or path (length path - 1) 0 ≡ last_of path
unfolding last_of
last_at [] = refl
last_at (u ∷ []) = refl
last_at (u ∷ v ∷ path) =
    let e : length (u ∷ v ∷ path) - 1 ≡ suc (length (v ∷ path) - 1) = omega arith in
    ap (λ (k : ℕ). get_or (u ∷ v ∷ path) k 0) e ∙ last_at (v ∷ path)

abbrev pub arrived_at : ℕ → Lookup
arrived_at u = record { arrived = 1; hops = 0; last = u }

abbrev pub lost_at : ℕ → Lookup
lost_at u = record { arrived = 0; hops = 0; last = u }

abbrev pub one_hop_more : Lookup → Lookup
one_hop_more r = record { arrived = r.arrived; hops = r.hops + 1; last = r.last }

module _ (s t : List ℕ) (failed u z : ℕ) where
  pub arrives_is : u ≡ z → lookup s t failed u z ≡ arrived_at u
  unfolding lookup answer_of last_of
  arrives_is e = rw (arrives_path (digits s) s t failed u z e, eq-eqb u z e)

  pub loses_is : u ≢ z → (next_hop s t failed u z).node ≡ 0 → lookup s t failed u z ≡ lost_at u
  unfolding lookup answer_of last_of
  loses_is e q = rw (loses_path (digits s) s t failed u z e q, ne_eqb u z e)

-- a node more in front of a path is one hop more
longer : (z u v : ℕ) (rest : List ℕ) → answer_of z (u ∷ v ∷ rest) ≡ one_hop_more (answer_of z (v ∷ rest))
unfolding answer_of last_of
longer z u v rest =
    let e : length (u ∷ v ∷ rest) - 1 ≡ length (v ∷ rest) - 1 + 1 = omega arith in
    ap (λ (h : ℕ). record { arrived = cond (eqb (last_of (v ∷ rest)) z) 1 0; hops = h; last = last_of (v ∷ rest) }) e

-- ---- in a sound state

module _ (s t : List ℕ) (S : Sound s t) (failed : ℕ) where
  -- a hop goes to a node that matches the destination in more digits
  pub hop_node : (u z : ℕ) → IsNode s u → IsNode s z → u ≢ z → (next_hop s t failed u z).node ≢ 0
      → IsNode s (next_hop s t failed u z).node × (suffix_of s u z + 1 ≤ suffix_of s (next_hop s t failed u z).node z)
  hop_node u z nu nz ne some =
      let at = hop_stands s t S u z nu nz ne failed some in
      subst (λ (v : ℕ). IsNode s v × (suffix_of s u z + 1 ≤ suffix_of s v z)) (sym at.1)
      (entry_hop s t S u z nu nz ne (next_hop s t failed u z).passed_over at.0)

  module _ (z : ℕ) (nz : IsNode s z) where
    -- what is left to match falls with each hop
    pub left_falls : (u : ℕ) → IsNode s u → u ≢ z → (next_hop s t failed u z).node ≢ 0
        → digits s - suffix_of s (next_hop s t failed u z).node z < digits s - suffix_of s u z
    left_falls u nu ne some =
        let below : suffix_of s u z < digits s = level_below s t S u z nu nz ne in
        omega (arith, (hop_node u z nu nz ne some).1)

    -- so what holds where a lookup ends, and before a hop if after it, holds of every node
    module _ (P : ℕ → Type 0) (arrive : (u : ℕ) → IsNode s u → u ≡ z → P u)
        (lose : (u : ℕ) → IsNode s u → u ≢ z → (next_hop s t failed u z).node ≡ 0 → P u)
        (hop : (u : ℕ) → IsNode s u → u ≢ z → (next_hop s t failed u z).node ≢ 0 → P (next_hop s t failed u z).node → P u) where
      within : (n u : ℕ) → IsNode s u → digits s - suffix_of s u z < n → P u
      within zero u nu h = absurd (omega arith)
      within (suc n) u nu h = go (λ e q. within n (next_hop s t failed u z).node (hop_node u z nu nz e q).0 (omega (arith, left_falls u nu e q))) (step_of s t failed u z)
        where
          go : (u ≢ z → (next_hop s t failed u z).node ≢ 0 → P (next_hop s t failed u z).node) → Step s t failed u z → P u
          go ih (arrives e) = arrive u nu e
          go ih (loses e q) = lose u nu e q
          go ih (hops e q) = hop u nu e q (ih e q)

      pub walk : (u : ℕ) → IsNode s u → P u
      walk u nu = within (suc (digits s)) u nu (omega arith)

    -- the path does not depend on how many hops it may have, if they are more than is left to match
    Enough : ℕ → Type 0
    Enough u =
        (a b : ℕ) → digits s - suffix_of s u z < suc a → digits s - suffix_of s u z < suc b
        → very_hops_within (suc a) s t failed u z ≡ very_hops_within (suc b) s t failed u z

    hop_enough : (u : ℕ) → IsNode s u → u ≢ z → (next_hop s t failed u z).node ≢ 0 → Enough (next_hop s t failed u z).node → Enough u
    unfolding Enough
    hop_enough u nu e q ih zero b h g = absurd (omega (arith, left_falls u nu e q))
    hop_enough u nu e q ih (suc a) zero h g = absurd (omega (arith, left_falls u nu e q))
    hop_enough u nu e q ih (suc a) (suc b) h g =
        hops_path (suc a) s t failed u z e q
        ∙ ap (◌∷◌ u) (ih a b (omega (arith, left_falls u nu e q)) (omega (arith, left_falls u nu e q)))
        ∙ sym (hops_path (suc b) s t failed u z e q)

    enough : (u : ℕ) → IsNode s u → Enough u
    unfolding Enough
    enough =
        walk Enough (λ u nu e a b h g. arrives_path a s t failed u z e ∙ sym (arrives_path b s t failed u z e))
        (λ u nu e q a b h g. loses_path a s t failed u z e q ∙ sym (loses_path b s t failed u z e q)) hop_enough

    -- so the very hops are one hop before the very hops from the next node
    pub path_hop : (u : ℕ) → IsNode s u → u ≢ z → (next_hop s t failed u z).node ≢ 0 → very_hops s t failed u z ≡ u ∷ very_hops s t failed (next_hop s t failed u z).node z
    unfolding Enough
    path_hop u nu e q =
        enough u nu (digits s) (suc (digits s)) (omega arith) (omega arith) ∙ hops_path (suc (digits s)) s t failed u z e q

    pub lookup_hop : (u : ℕ) → IsNode s u → u ≢ z → (next_hop s t failed u z).node ≢ 0 → lookup s t failed u z ≡ one_hop_more (lookup s t failed (next_hop s t failed u z).node z)
    unfolding lookup
    lookup_hop u nu e q =
        let v : ℕ = (next_hop s t failed u z).node in
        let p = path_starts (digits s) s t failed v z in
        ap (answer_of z) (path_hop u nu e q ∙ ap (◌∷◌ u) p.1)
        ∙ longer z u v p.0
        ∙ ap (λ (path : List ℕ). one_hop_more (answer_of z path)) (sym p.1)

    -- at most d hops less the digits already matched
    pub hops_bound : (u : ℕ) → IsNode s u → (lookup s t failed u z).hops ≤ digits s - suffix_of s u z
    hops_bound =
        walk (λ (u : ℕ). (lookup s t failed u z).hops ≤ digits s - suffix_of s u z) (λ u nu e. rw (arrives_is s t failed u z e) (omega arith))
        (λ u nu e q. rw (loses_is s t failed u z e q) (omega arith))
        (λ u nu e q ih. rw (lookup_hop u nu e q) (omega (arith, left_falls u nu e q)))

    -- from a start that has not failed it goes through no failed node
    pub path_left : (u : ℕ) → IsNode s u → has_node failed u ≡ false → (k : ℕ) → k < length (very_hops s t failed u z)
        → has_node failed (get_or (very_hops s t failed u z) k 0) ≡ false
    path_left =
        walk (λ (u : ℕ). has_node failed u ≡ false → Left (very_hops s t failed u z)) (λ u nu e f. one u f (arrives_path (digits s) s t failed u z e))
        (λ u nu e q f. one u f (loses_path (digits s) s t failed u z e q))
        (λ u nu e q ih f.
        subst Left (sym (path_hop u nu e q)) (more u (very_hops s t failed (next_hop s t failed u z).node z) f (ih (hop_left s t S u z nu nz e failed q))))
      where
        Left : List ℕ → Type 0
        Left path = (k : ℕ) → k < length path → has_node failed (get_or path k 0) ≡ false

        more : (u : ℕ) (path : List ℕ) → has_node failed u ≡ false → Left path → Left (u ∷ path)
        more u path f h zero l = f
        more u path f h (suc k) l = h k (omega arith)

        one : (u : ℕ) → has_node failed u ≡ false → {path : List ℕ} → path ≡ u ∷ [] → Left path
        one u f e = subst Left (sym e) (more u [] f (λ k l. absurd (omega arith)))
