-- What a node that joins alone has done by telling others, and that the network is whole once nobody is due. s₀ and t₀ are the memory at a yes, and x is the
-- one node that joined since. Assumes nothing.
use Prim.Native.Nat.{ℕ, ◌+◌, ◌^◌, ◌≤◌, ◌<◌}
use mathlib.Core.Path.{◌≡◌, sym, ap, subst, ◌∙◌}
use mathlib.Core.Logic.{◌≢◌, ◌⊎◌, inl, inr, ⊎_elim}
use mathlib.Core.Bool.{true}
use mathlib.Core.List.{List}
use native.Mathlib.Decide.{dec_lt, ℕ_discrete}
use native.Mathlib.Omega.{arith}
use lib.ListN.{get_or}
use Rattle.model.specs.Memory.{digits, depth, node_count, id_of, has_node, table_of}
use Rattle.model.specs.Nodes.{suffix_of, count_nodes}
use Rattle.model.specs.Lookup.{next_hop}
use Rattle.model.proofs.Loops.{count_none}
use Rattle.model.proofs.Ids.{suffix_sym, suffix_through}
use Rattle.model.proofs.Sets.{has_none}
use Rattle.model.proofs.Nodes.{suffix_by}
use Rattle.model.proofs.Status.{IsNode}
use Rattle.model.proofs.Sound.{Sound}
use Rattle.model.proofs.TablesOnlyGrow.{Attached, settled_attached, Onward}
use Rattle.model.proofs.NextHop.{hop_place}
use Rattle.model.proofs.Lookup.{hop_node, walk}
use Rattle.model.proofs.Consistency.{Whole}
use Rattle.model.proofs.NoRoom.{NoRoom, own_no_room, Roomless, whole_hop, no_room_whole}
use Rattle.model.proofs.Failures.{some_hop}
use Rattle.model.proofs.Reaching.{Yes, Reaching}

module _ (s₀ t₀ : List ℕ) (Y : Yes s₀ t₀) where
  abbrev x : ℕ
  x = node_count s₀ + 1

  -- a node but x was there at the yes
  pub old_node : {s : List ℕ} → node_count s ≡ node_count s₀ + 1 → (u : ℕ) → IsNode s u → u ≢ node_count s₀ + 1 → IsNode s₀ u
  old_node count u n e = record { low = n.low; high = omega (arith, n.high, count, e) }

  -- x attached at level k and has told these nodes; `Due` are those that it is still to tell
  pub record Told (s t : List ℕ) (k : ℕ) (Due : ℕ → Type 0) (told : ℕ) : Type 0 where
    pub old : told < 2 ^ node_count s₀
    pub near : (u : ℕ) → IsNode s₀ u → has_node told u ≡ true → k ≤ suffix_of s (node_count s₀ + 1) u
    -- no node has room for x below the level, and those that were told have none from the level up
    pub low : (u : ℕ) → IsNode s₀ u → (i : ℕ) → i < k → i ≤ suffix_of s u (node_count s₀ + 1) → i < digits s → NoRoom s (table_of t u) (node_count s₀ + 1) i
    pub high : (u : ℕ) → IsNode s₀ u → has_node told u ≡ true → (i : ℕ) → k ≤ i → i ≤ suffix_of s u (node_count s₀ + 1) → i < digits s
        → NoRoom s (table_of t u) (node_count s₀ + 1) i
    -- of a node that was told, each that stood in its table at the yes and matches x in k digits was told or is due
    pub closed : (u : ℕ) → IsNode s₀ u → has_node told u ≡ true → (p : ℕ) → p < 512 → get_or (table_of t₀ u) p 0 ≢ 0
        → k ≤ suffix_of s (node_count s₀ + 1) (get_or (table_of t₀ u) p 0)
        → (has_node told (get_or (table_of t₀ u) p 0) ≡ true) ⊎ Due (get_or (table_of t₀ u) p 0)

  -- the same by another word for who is due
  pub told_due : {s t : List ℕ} {k : ℕ} {Due Due' : ℕ → Type 0} {told : ℕ} → ((v : ℕ) → 1 ≤ v → Due v → Due' v) → Told s t k Due told → Told s t k Due' told
  told_due f T = record {
    old = T.old;
    near = T.near;
    low = T.low;
    high = T.high;
    closed = λ u n h p hp nz near. ⊎_elim (λ e. inl e) (λ e. inr (f (get_or (table_of t₀ u) p 0) (omega (arith, nz)) e)) (T.closed u n h p hp nz near);
  }

  -- ---- nobody is due any more: the network is whole

  module _ (s t : List ℕ) (S : Sound s t) (on : Onward s₀ t₀ s t) (count : node_count s ≡ node_count s₀ + 1) (R : Reaching s₀ s t)
      (k told : ℕ) (T : Told s t k (λ v. ⊥) told) (y : ℕ) (ny : IsNode s₀ y) (first : has_node told y ≡ true) where
    suffix_old : (u v : ℕ) → IsNode s₀ u → IsNode s₀ v → suffix_of s u v ≡ suffix_of s₀ u v
    suffix_old u v nu nv =
        suffix_by s₀ s u v on.digits (on.ids u (settled_attached s₀ u nu (Y.in_system u nu))) (on.ids v (settled_attached s₀ v nv (Y.in_system v nv)))

    none_failed : count_nodes s₀ (has_node 0) < depth s₀
    none_failed = omega (arith, count_none (node_count s₀) _ (λ k l. has_none (k + 1)), Y.sound.settings.depth_least)

    -- every node that matches x in k digits was told: a lookup to it from one that was told goes through such nodes alone
    module _ (v : ℕ) (nv : IsNode s₀ v) (near : k ≤ suffix_of s (node_count s₀ + 1) v) where
      next_told : (u : ℕ) → IsNode s₀ u → u ≢ v → (next_hop s₀ t₀ 0 u v).node ≢ 0 → has_node told u ≡ true → has_node told (next_hop s₀ t₀ 0 u v).node ≡ true
      next_told u nu ne some h =
          let w : ℕ = (next_hop s₀ t₀ 0 u v).node in
          let p = hop_place s₀ t₀ Y.sound u v nu nv ne 0 some in
          let hop = hop_node s₀ t₀ Y.sound 0 u v nu nv ne some in
          let between : k ≤ suffix_of s u v = suffix_through (digits s) (id_of s x) (id_of s u) (id_of s v) k (T.near u nu h) near in
          let ahead : k ≤ suffix_of s v w = omega (arith, between, suffix_old u v nu nv, hop.1, suffix_old w v hop.0 nv, suffix_sym (digits s) (id_of s w) (id_of s v)) in
          let matches : k ≤ suffix_of s x w =
          suffix_through (digits s) (id_of s v) (id_of s x) (id_of s w) k (omega (arith, near, suffix_sym (digits s) (id_of s v) (id_of s x))) ahead in
          subst (λ (w : ℕ). has_node told w ≡ true) p.2
          (⊎_elim (λ e. e) (λ e. absurd e)
          (T.closed u nu h p.0 p.1 (λ e. some (sym p.2 ∙ e)) (subst (λ (w : ℕ). k ≤ suffix_of s x w) (sym p.2) matches)))

      all_told : has_node told v ≡ true
      all_told =
          walk s₀ t₀ Y.sound 0 v nv (λ (u : ℕ). has_node told u ≡ true → has_node told v ≡ true) (λ u nu e h. ap (has_node told) (sym e) ∙ h)
          (λ u nu ne q h.
          absurd
          (some_hop s₀ t₀ Y.sound 0 v nv (has_none v) none_failed u nu ne (whole_hop s₀ t₀ Y.sound Y.whole u v nu nv ne) q))
          (λ u nu ne q ih h. ih (next_told u nu ne q h)) y ny first

    -- so no node has room for another
    no_room : Attached s (node_count s₀ + 1) → Roomless s t S
    no_room joined u z i nu nz low hi = go (ℕ_discrete u x) (ℕ_discrete z x)
      where
        for_x : IsNode s₀ u → i ≤ suffix_of s u x → NoRoom s (table_of t u) x i
        for_x n low = by_level (dec_lt i k)
          where
            by_level : Dec (i < k) → NoRoom s (table_of t u) x i
            by_level (yes l) = T.low u n i l low hi
            by_level (no g) = T.high u n (all_told u n (omega (arith, low, suffix_sym (digits s) (id_of s u) (id_of s x)))) i (omega arith) low hi

        go : Dec (u ≡ x) → Dec (z ≡ x) → NoRoom s (table_of t u) z i
        go (yes e) (yes q) = subst (λ (z : ℕ). NoRoom s (table_of t u) z i) (e ∙ sym q) (own_no_room s t S u i nu hi)
        go (yes e) (no q) = R.no_room u (subst (Attached s) (sym e) joined) z (old_node count z nz q) i low hi
        go (no e) (no q) = R.no_room u (settled_attached s u nu (R.in_system u (old_node count u nu e))) z (old_node count z nz q) i low hi
        go (no e) (yes q) =
            subst (λ (z : ℕ). NoRoom s (table_of t u) z i) (sym q) (for_x (old_node count u nu e) (subst (λ (z : ℕ). i ≤ suffix_of s u z) q low))

    pub told_whole : Attached s (node_count s₀ + 1) → Whole s t
    told_whole joined = no_room_whole s t S (no_room joined)
