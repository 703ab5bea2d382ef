-- On memories alike in the fixed lengths lookup, survey, verdict, image and the steps of a trace are the same. Assumes nothing.
use Prim.Native.Nat.{ℕ, zero, suc, ◌+◌, ◌-◌, ◌≤◌, ◌<◌}
use mathlib.Core.Path.{◌≡◌, refl, sym, ap, fun_ext, ◌∙◌}
use mathlib.Core.Logic.{◌≢◌}
use mathlib.Core.Bool.{Bool, true, false, not}
use mathlib.Core.List.{List, ◌∷◌}
use native.Mathlib.Omega.{arith}
use lib.ListN.{take}
use Rattle.model.specs.Loops.{all_below, first_below, count_below, sum_below, join_below, node}
use Rattle.model.specs.Memory.{state_length, base, digits, node_count, node_of, table_of}
use Rattle.model.specs.Nodes.{qualifies}
use Rattle.model.specs.Lookup.{hop_entry, NextHop, frontmost, next_hop, very_hops_within, answer_of, lookup}
use Rattle.model.specs.Survey.{arrives_in, is_lost, is_pair, of_pair, pairs_from, count_pairs, hop_pairs, lost_pairs, survey_counts}
use Rattle.model.specs.Consistency.{Verdict, how_many, entry_whole, level_whole, node_whole, consistent, node_short, level_short, entry_short, first_short, verdict}
use Rattle.model.specs.Image.{id_bytes, entry_records, level_records, node_records, all_records, under_way, join_fields, join_bytes, count_bytes, rest_bytes, image_of}
use Rattle.model.specs.Traces.{path_count, place_count, place_at, destination, step_count, may_go, step_allowed, places_named}
use Rattle.model.proofs.Loops.{all_same, count_same, sum_same, first_same, join_same, first_fails}
use Rattle.model.proofs.Memory.{same_status, same_level, same_target, same_pending, same_notified, same_requests, same_notices}
use Rattle.model.proofs.Status.{IsNode, in_system_same}
use Rattle.model.proofs.Sound.{Sound}
use Rattle.model.proofs.NextHop.{Agreeing, front_same, entry_hop}
use Rattle.model.proofs.Traces.{places_named_lem}
use Rattle.model.proofs.Lookup.{Step, arrives, loses, hops, step_of, arrives_path, loses_path, hops_path, hop_node}
use Rattle.model.proofs.Alike as same
use Rattle.model.proofs.Alike.{LongAlike, base_same, digits_same, depth_same, id_same, record_same, alike_to, suffix_alike, table_same}

-- loops over the nodes, where both memories have as many
pub nodes_same {ℓ κ} : {A : Type ℓ} {B : Type κ} (loop : ℕ → (ℕ → A) → B)
    → ((n : ℕ) (f g : ℕ → A) → ((k : ℕ) → k < n → f k ≡ g k) → loop n f ≡ loop n g) → (n n' : ℕ) → n' ≡ n → (f f' : ℕ → A)
    → ((x : ℕ) → 1 ≤ x → x ≤ n → f' x ≡ f x) → loop n' (node f') ≡ loop n (node f)
nodes_same loop law n n' e f f' h =
    ap (λ (n : ℕ). loop n (node f')) e ∙ law n (node f') (node f) (λ k l. h (k + 1) (omega arith) (omega arith))

-- the verdict that x has the first short entry
short_at : List ℕ → List ℕ → ℕ → Verdict
short_at s t x =
    let i = first_below (digits s) (level_short s t x) in
    record { consistent = 0; node = x; level = i; digit = first_below (base s) (entry_short s t x i) }

module _ (s t s' t' : List ℕ) (L : LongAlike s t s' t') (S : Sound s t) where
  a : take state_length s' ≡ take state_length s
  a = L.alike.state

  count : node_count s' ≡ node_count s
  count = same.count_same s s' a

  few : (x : ℕ) → x ≤ node_count s → x ≤ 64
  few x h = omega (arith, S.few)

  -- ---- the entry that a lookup looks into, and the steps of a trace

  hop_entry_same : (u z : ℕ) → IsNode s u → IsNode s z → hop_entry s' t' u z ≡ hop_entry s t u z
  unfolding hop_entry
  hop_entry_same u z nu nz =
      cc (
        depth_same s s' a,
        suffix_alike (alike_to s s' a) u z (few u nu.high) (few z nz.high),
        id_same s s' a z (few z nz.high),
        table_same s t s' t' L u nu.low (few u nu.high),
      )

  -- where every place has a node
  pub step_same : (trace : List ℕ) → places_named s trace ≡ true → (p k : ℕ) → p < path_count trace → k < step_count trace p
      → step_allowed s' t' trace p k ≡ step_allowed s t trace p k
  unfolding step_allowed may_go
  step_same trace e p k l h =
      let named = places_named_lem s trace e in
      cc (hop_entry_same (place_at trace p k) (destination trace p) (named p k l (omega arith)) (named p (place_count trace p - 1) l (omega arith)))

  -- ---- lookup and survey, with sets of failed nodes that say the same of every node

  module _ (failed failed' : ℕ) (agree : Agreeing s failed failed') where
    module _ (z : ℕ) (nz : IsNode s z) where
      next_same : (u : ℕ) → IsNode s u → u ≢ z → (next_hop s' t' failed' u z).node ≡ (next_hop s t failed u z).node
      unfolding next_hop
      next_same u nu ne =
          ap (λ (E : List ℕ). (frontmost failed' E).node) (hop_entry_same u z nu nz)
          ∙ ap (λ (r : NextHop). r.node)
          (front_same failed failed' (hop_entry s t u z) (λ k l. agree _ (entry_hop s t S u z nu nz ne k l).0))

      hops_same : (n u : ℕ) → IsNode s u → very_hops_within n s' t' failed' u z ≡ very_hops_within n s t failed u z
      unfolding very_hops_within
      hops_same zero u nu = refl
      hops_same (suc n) u nu = go (λ v nv. hops_same n v nv) (step_of s t failed u z)
        where
          go : ((v : ℕ) → IsNode s v → very_hops_within n s' t' failed' v z ≡ very_hops_within n s t failed v z) → Step s t failed u z
              → very_hops_within (suc n) s' t' failed' u z ≡ very_hops_within (suc n) s t failed u z
          go ih (arrives q) = arrives_path n s' t' failed' u z q ∙ sym (arrives_path n s t failed u z q)
          go ih (loses ne q) = loses_path n s' t' failed' u z ne (next_same u nu ne ∙ q) ∙ sym (loses_path n s t failed u z ne q)
          go ih (hops ne some) =
              hops_path n s' t' failed' u z ne (λ q. some (sym (next_same u nu ne) ∙ q))
              ∙ ap (λ (v : ℕ). u ∷ very_hops_within n s' t' failed' v z) (next_same u nu ne)
              ∙ ap (◌∷◌ u) (ih (next_hop s t failed u z).node (hop_node s t S failed u z nu nz ne some).0)
              ∙ sym (hops_path n s t failed u z ne some)

      pub lookup_same : (u : ℕ) → IsNode s u → lookup s' t' failed' u z ≡ lookup s t failed u z
      unfolding lookup
      lookup_same u nu =
          ap (λ (d : ℕ). answer_of z (very_hops_within (suc d) s' t' failed' u z)) (digits_same s s' a)
          ∙ ap (answer_of z) (hops_same (suc (digits s)) u nu)

    pairs_same : (f f' : ℕ → ℕ → Bool) → ((u z : ℕ) → IsNode s u → IsNode s z → f' u z ≡ f u z) → count_pairs s' failed' f' ≡ count_pairs s failed f
    unfolding count_pairs is_pair
    pairs_same f f' e =
        nodes_same sum_below sum_same (node_count s) (node_count s') count (pairs_from s failed f) (pairs_from s' failed' f')
        (λ u lu hu.
        nodes_same count_below count_same (node_count s) (node_count s') count (of_pair failed f u) (of_pair failed' f' u)
        (λ z lz hz.
        let nu : IsNode s u = record { low = lu; high = hu } in
        let nz : IsNode s z = record { low = lz; high = hz } in
        cc (agree u nu, agree z nz, e u z nu nz)))

    hop_pairs_same : (h : ℕ) → hop_pairs s' t' failed' h ≡ hop_pairs s t failed h
    unfolding arrives_in
    hop_pairs_same h = pairs_same (arrives_in s t failed h) (arrives_in s' t' failed' h) (λ u z nu nz. cc (lookup_same z nz u nu))

    lost_pairs_same : lost_pairs s' t' failed' ≡ lost_pairs s t failed
    unfolding is_lost
    lost_pairs_same = pairs_same (is_lost s t failed) (is_lost s' t' failed') (λ u z nu nz. cc (lookup_same z nz u nu))

    pub survey_same : survey_counts s' t' failed' ≡ survey_counts s t failed
    unfolding survey_counts
    survey_same =
        cc (
          hop_pairs_same 1,
          hop_pairs_same 2,
          hop_pairs_same 3,
          hop_pairs_same 4,
          hop_pairs_same 5,
          hop_pairs_same 6,
          hop_pairs_same 7,
          hop_pairs_same 8,
          lost_pairs_same,
        )

  -- ---- the verdict

  module _ (x : ℕ) (low : 1 ≤ x) (high : x ≤ node_count s) where
    pub how_many_same : (i j : ℕ) → how_many s' x i j ≡ how_many s x i j
    unfolding how_many
    how_many_same i j =
        nodes_same count_below count_same (node_count s) (node_count s') count (qualifies s x i j) (qualifies s' x i j)
        (λ y l h. cc (id_same s s' a x (few x high), id_same s s' a y (few y h)))

    entry_same : (i : ℕ) → entry_whole s' t' x i ≡ entry_whole s t x i
    unfolding entry_whole
    entry_same i =
        fun_ext (λ j. cc (depth_same s s' a, table_same s t s' t' L x low (few x high), how_many_same i j))

    level_same : level_whole s' t' x ≡ level_whole s t x
    unfolding level_whole
    level_same = fun_ext (λ i. cc (base_same s s' a, entry_same i))

    whole_same : node_whole s' t' x ≡ node_whole s t x
    unfolding node_whole
    whole_same = cc (digits_same s s' a, level_same)

  consistent_same : consistent s' t' ≡ consistent s t
  unfolding consistent
  consistent_same = nodes_same all_below all_same (node_count s) (node_count s') count (node_whole s t) (node_whole s' t') whole_same

  -- the level and the digit of the first short entry of a node x
  at_same : (x : ℕ) → 1 ≤ x → x ≤ node_count s → short_at s' t' x ≡ short_at s t x
  unfolding short_at
  at_same x low high = cc (base_same s s' a, digits_same s s' a, levels, digs (first_below (digits s) (level_short s t x)))
    where
      levels : level_short s' t' x ≡ level_short s t x
      levels = fun_ext (λ i. ap (λ (f : ℕ → Bool). not (f i)) (level_same x low high))

      digs : (i : ℕ) → entry_short s' t' x i ≡ entry_short s t x i
      digs i = fun_ext (λ j. ap (λ (f : ℕ → Bool). not (f j)) (entry_same x low high i))

  first_short_same : consistent s t ≡ false → first_short s' t' ≡ first_short s t
  unfolding first_short consistent short_at
  first_short_same e =
      let l : first_below (node_count s) (node (node_short s t)) < node_count s = first_fails (node_count s) (node (node_whole s t)) e in
      ap (λ (k : ℕ). short_at s' t' (k + 1))
      (nodes_same first_below first_same (node_count s) (node_count s') count (node_short s t) (node_short s' t')
      (λ x low high. ap not (whole_same x low high)))
      ∙ at_same (first_below (node_count s) (node (node_short s t)) + 1) (omega arith) (omega arith)

  pub verdict_same : verdict s' t' ≡ verdict s t
  unfolding verdict
  verdict_same = go (consistent s t) refl
    where
      go : (b : Bool) → consistent s t ≡ b → verdict s' t' ≡ verdict s t
      go true e = cc (consistent_same)
      go false e = cc (consistent_same, first_short_same e)

  -- ---- the image

  records_same : (x : ℕ) → 1 ≤ x → x ≤ node_count s → node_records s' t' x ≡ node_records s t x
  unfolding node_records level_records entry_records
  records_same x low high =
      cc (digits_same s s' a, table_same s t s' t' L x low (few x high), levels)
    where
      entries : (i : ℕ) → entry_records s' (table_of t x) x i ≡ entry_records s (table_of t x) x i
      entries i = fun_ext (λ j. cc (depth_same s s' a))

      levels : level_records s' (table_of t x) x ≡ level_records s (table_of t x) x
      levels = fun_ext (λ i. cc (base_same s s' a, entries i))

  -- a node's join and its counts, by its record
  record_there : (x : ℕ) → x ≤ node_count s → node_of s' x ≡ node_of s x
  record_there x h = record_same s s' a x (few x h)

  join_bytes_same : (x : ℕ) → 1 ≤ x → x ≤ node_count s → join_bytes s' x ≡ join_bytes s x
  unfolding join_bytes join_fields
  join_bytes_same x l h =
      let r = record_there x h in cc (same_status r, same_level r, same_target r, same_pending r, same_notified r)

  rest_same : (v : ℕ) → rest_bytes v s' ≡ rest_bytes v s
  unfolding rest_bytes
  rest_same v =
      cc (
        count,
        nodes_same count_below count_same (node_count s) (node_count s') count (under_way s) (under_way s') (λ x l h. ap not (in_system_same s s' x (record_there x h))),
        nodes_same join_below join_same (node_count s) (node_count s') count (join_bytes s) (join_bytes s') join_bytes_same,
        nodes_same join_below join_same (node_count s) (node_count s') count (count_bytes s) (count_bytes s')
            (λ x l h. let r = record_there x h in cc (same_requests r, same_notices r)),
      )

  pub image_same : (v : ℕ) → image_of v s' t' ≡ image_of v s t
  unfolding image_of all_records
  image_same v =
      cc (
        base_same s s' a,
        digits_same s s' a,
        depth_same s s' a,
        count,
        nodes_same join_below join_same (node_count s) (node_count s') count (id_bytes s) (id_bytes s') (λ x l h. cc (id_same s s' a x (few x h))),
        nodes_same join_below join_same (node_count s) (node_count s') count (node_records s t) (node_records s' t') records_same,
        rest_same v,
      )
