-- The very hops of a lookup as a path of a trace, in a sound state, arrived or lost. Each later node of it matches the destination in more digits than the
-- one before it, so each step is one that a path to the last node may go. Assumes nothing.
use Prim.Native.Nat.{ℕ, zero, suc, ◌+◌, ◌≤◌, ◌<◌}
use mathlib.Core.Path.{◌≡◌, sym, ap, ap₂, subst, ◌∙◌}
use mathlib.Core.Logic.{◌≢◌}
use mathlib.Core.Bool.{true}
use mathlib.Core.List.{List, [], ◌∷◌}
use native.Mathlib.Nat.{le_refl}
use native.Mathlib.Numerals.{add-one}
use native.Mathlib.Omega.{arith}
use lib.ListN.{length, get_or}
use Rattle.model.specs.Ids.{digit_of}
use Rattle.model.specs.Memory.{digits, depth, id_of, table_of}
use Rattle.model.specs.Tables.{entry}
use Rattle.model.specs.Nodes.{suffix_of}
use Rattle.model.specs.Lookup.{hop_entry, next_hop, very_hops, last_of, answer_of, lookup}
use Rattle.model.specs.Traces.{may_go}
use Rattle.model.proofs.Ids.{suffix_digit, suffix_nearer}
use Rattle.model.proofs.Status.{IsNode}
use Rattle.model.proofs.Sound.{Sound}
use Rattle.model.proofs.NextHop.{hop_stands}
use Rattle.model.proofs.Lookup.{arrives_path, loses_path, path_hop, hop_node, hops_bound, walk}
use Rattle.model.proofs.Traces.{may_go_of}

-- a path that may stand in a trace; its last node is its destination
pub record Traceable (s t path : List ℕ) : Type 0 where
  pub least : 1 ≤ length path
  pub most : length path ≤ 9
  pub nodes : (k : ℕ) → k < length path → IsNode s (get_or path k 0)
  pub steps : (k : ℕ) → k + 1 < length path → may_go s t (get_or path k 0) (get_or path (k + 1) 0) (last_of path) ≡ true

-- toward w, which matches z in more digits than u does, u's entry is the one toward z
entry_toward : (s t : List ℕ) (u w z : ℕ) → suffix_of s u z < suffix_of s w z → hop_entry s t u w ≡ hop_entry s t u z
unfolding hop_entry
entry_toward s t u w z l =
    let d = digits s in
    ap₂ (entry (depth s) (table_of t u)) (suffix_nearer d (id_of s u) (id_of s w) (id_of s z) l)
    (ap (digit_of (id_of s w)) (suffix_nearer d (id_of s u) (id_of s w) (id_of s z) l) ∙ suffix_digit d (id_of s w) (id_of s z) (suffix_of s u z) l)

module _ (s t : List ℕ) (S : Sound s t) (failed z : ℕ) (nz : IsNode s z) where
  -- so a hop toward z is one toward w
  hop_toward : (u w : ℕ) → IsNode s u → u ≢ z → (next_hop s t failed u z).node ≢ 0 → suffix_of s u z < suffix_of s w z
      → may_go s t u (next_hop s t failed u z).node w ≡ true
  hop_toward u w nu ne some l =
      let at = hop_stands s t S u z nu nz ne failed some in
      let k : ℕ = (next_hop s t failed u z).passed_over in
      let same = entry_toward s t u w z l in
      may_go_of s t u (next_hop s t failed u z).node w (λ e. omega (arith, l, ap (λ (x : ℕ). suffix_of s x z) e)) k
      (subst (λ (E : List ℕ). k < length E) (sym same) at.0) (ap (λ (E : List ℕ). get_or E k 0) same ∙ sym at.1)

  -- the very hops from u: they end at a node that matches z in as many digits as u, or more
  record Walked (u : ℕ) : Type 0 where
    rest : List ℕ
    path : very_hops s t failed u z ≡ u ∷ rest
    nodes : (k : ℕ) → k < length (u ∷ rest) → IsNode s (get_or (u ∷ rest) k 0)
    nearer : suffix_of s u z ≤ suffix_of s (last_of (u ∷ rest)) z
    steps : (k : ℕ) → suc k < length (u ∷ rest) → may_go s t (get_or (u ∷ rest) k 0) (get_or (u ∷ rest) (suc k) 0) (last_of (u ∷ rest)) ≡ true

  alone : (u : ℕ) → IsNode s u → very_hops s t failed u z ≡ u ∷ [] → Walked u
  unfolding last_of
  alone u nu e = record {
    rest = [];
    path = e;
    nodes = one;
    nearer = le_refl _;
    steps = λ k l. absurd (omega arith);
  }
    where
      one : (k : ℕ) → k < 1 → IsNode s (get_or (u ∷ []) k 0)
      one zero l = nu
      one (suc k) l = absurd (omega arith)

  further : (u : ℕ) → IsNode s u → u ≢ z → (next_hop s t failed u z).node ≢ 0 → Walked (next_hop s t failed u z).node → Walked u
  unfolding last_of
  further u nu ne some w = record {
    rest = v ∷ w.rest;
    path = path_hop s t S failed z nz u nu ne some ∙ ap (◌∷◌ u) w.path;
    nodes = nodes;
    nearer = omega (arith, w.nearer, (hop_node s t S failed u z nu nz ne some).1);
    steps = steps;
  }
    where
      v : ℕ
      v = (next_hop s t failed u z).node

      nodes : (k : ℕ) → k < length (u ∷ v ∷ w.rest) → IsNode s (get_or (u ∷ v ∷ w.rest) k 0)
      nodes zero l = nu
      nodes (suc k) l = w.nodes k (omega arith)

      steps : (k : ℕ) → suc k < length (u ∷ v ∷ w.rest)
          → may_go s t (get_or (u ∷ v ∷ w.rest) k 0) (get_or (u ∷ v ∷ w.rest) (suc k) 0) (last_of (v ∷ w.rest)) ≡ true
      steps zero l = hop_toward u (last_of (v ∷ w.rest)) nu ne some (omega (arith, w.nearer, (hop_node s t S failed u z nu nz ne some).1))
      steps (suc k) l = w.steps k (omega arith)

  walked : (u : ℕ) → IsNode s u → Walked u
  walked =
      walk s t S failed z nz Walked (λ u nu e. alone u nu (arrives_path (digits s) s t failed u z e))
      (λ u nu e q. alone u nu (loses_path (digits s) s t failed u z e q)) further

  -- at most d hops, and so at most d + 1 nodes
  few_hops : (u : ℕ) → IsNode s u → length (very_hops s t failed u z) ≤ 9
  unfolding lookup answer_of
  few_hops u nu = omega (arith, hops_bound s t S failed z nz u nu, S.settings.digits_most)

  pub hops_traceable : (u : ℕ) → IsNode s u → Traceable s t (very_hops s t failed u z)
  hops_traceable u nu =
      let w = walked u nu in
      subst (Traceable s t) (sym w.path)
      (record {
        least = omega arith;
        most = subst (λ (path : List ℕ). length path ≤ 9) w.path (few_hops u nu);
        nodes = w.nodes;
        steps = λ k. rw add-one (w.steps k);
      })
