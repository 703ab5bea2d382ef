-- Two nodes that meet: what stands in their tables are nodes, before and after learning, so each can be read and learned. Assumes
-- nothing.
use Prim.Native.Nat.{ℕ, suc, ◌+◌, ◌*◌, ◌≤◌, ◌<◌}
use mathlib.Core.Path.{◌≡◌, refl, sym, ap, ap₂, subst, ◌∙◌}
use mathlib.Core.Logic.{◌≢◌, inl, ⊎_elim}
use mathlib.Core.List.{List}
use native.Mathlib.Decide.{ℕ_discrete}
use native.Mathlib.Omega.{arith}
use lib.ListN.{length, get_or}
use Rattle.model.specs.Ids.{common_suffix}
use Rattle.model.specs.Memory.{digits, depth, node_count, Node, node_of, id_of, with_node, table_of}
use Rattle.model.specs.Tables.{slot_place, entry_size, append}
use Rattle.model.specs.Nodes.{suffix_of}
use Rattle.model.specs.Learning.{learn_at, learn, learn_place, learn_table}
use Rattle.model.specs.Join.{notifying_node}
use Rattle.model.proofs.Loops.{each_keeps}
use Rattle.model.proofs.Tables.{append_length, append_here, append_away}
use Rattle.model.proofs.Learning.{learn_at_cases, learn_place_cases}
use Rattle.model.proofs.Status.{IsNode}
use Rattle.model.proofs.Sound.{standing, Sound, id_fits}
use Rattle.model.proofs.SoundNodes.{own, suffix_below}
use Rattle.model.proofs.ReplacingKeepsSound.{Agree, agree_node, agree_id, agree_count}
use Rattle.model.proofs.Memory.{node_length}
use Rattle.learning.specs.declared.learner.Learner.{Learner}
use Rattle.learning.specs.Learners.{NodeReadable, LearnerOf, TableReadable, Learns, LearnsTable}
use Rattle.delivery_parts.specs.Delivers.{Delivers, Network, NodesIn, Meets}

-- ---- a node can be read and learned

pub readable : (s : List ℕ) → Network s → (u : ℕ) → IsNode s u → NodeReadable s u
readable s n u k = record { long = n.long; first = k.low; last = omega (arith, n.few, k.high); short = n.ids u k }

-- r is what the code has for z: the state and the number that it was loaded from are s and z
module _ (s : List ℕ) (n : Network s) (r : Learner) (z : ℕ) (es : r.state.now ≡ s) (e : r.number ≡ z) (o : LearnerOf r.state.now r) (nz : IsNode s z) where
  pub learns : (u : ℕ) → IsNode s u → u ≢ z → Learns r.state.now r u
  learns u nu ne = record {
    learner = o;
    deep = rw es n.deep;
    node = rw es (readable s n u nu);
    suffix = rw (es, e) (n.apart z u nz nu ne);
  }

  pub learns_table : (Y : List ℕ) → NodesIn s Y → LearnsTable r.state.now r Y
  learns_table Y m = record {
    long = omega (arith, m.long);
    nodes = λ p h some no. learns (get_or Y p 0) (m.at p h some) (λ q. no (q ∙ sym e));
  }

pub readable_table : (s : List ℕ) → Network s → (T : List ℕ) → NodesIn s T → TableReadable s T
readable_table s n T m = record {
  long = omega (arith, m.long);
  nodes = λ p h some. readable s n (get_or T p 0) (m.at p h some);
}

-- ---- learning brings in nodes only

module _ (s : List ℕ) where
  append_nodes : (K : ℕ) (T : List ℕ) (i j u : ℕ) → IsNode s u → NodesIn s T → NodesIn s (append K T i j u)
  append_nodes K T i j u nu m = record {
    long = append_length K T i j u ∙ m.long;
    at = λ p h some. go p h some (ℕ_discrete p (slot_place i j (entry_size K T i j)));
  }
    where
      go : (p : ℕ) → p < 512 → get_or (append K T i j u) p 0 ≢ 0 → Dec (p ≡ slot_place i j (entry_size K T i j))
          → IsNode s (get_or (append K T i j u) p 0)
      go p h some (yes e) =
          let l : slot_place i j (entry_size K T i j) < length T = omega (arith, e, h, m.long) in
          subst (IsNode s) (sym (ap (λ (p : ℕ). get_or (append K T i j u) p 0) e ∙ append_here K T i j u l)) nu
      go p h some (no q) =
          let w = append_away K T i j u p q in
          subst (IsNode s) (sym w) (m.at p h (λ z. some (w ∙ z)))

  learn_at_nodes : (u i : ℕ) (T : List ℕ) → IsNode s u → NodesIn s T → NodesIn s (learn_at s u i T)
  learn_at_nodes u i T nu m =
      ⊎_elim (λ a. subst (NodesIn s) (sym a.is) (append_nodes _ T _ _ u nu m)) (λ e. subst (NodesIn s) (sym e) m) (learn_at_cases s u i T)

  pub learn_nodes : (z u : ℕ) (T : List ℕ) → IsNode s u → NodesIn s T → NodesIn s (learn s z u T)
  unfolding learn
  learn_nodes z u T nu m =
      each_keeps (NodesIn s) (suc (suffix_of s z u)) (learn_at s u) T m (λ i T' l. learn_at_nodes u i T' nu)

  pub learn_table_nodes : (z : ℕ) (Y T : List ℕ) → NodesIn s Y → NodesIn s T → NodesIn s (learn_table s z Y T)
  unfolding learn_table
  learn_table_nodes z Y T y m =
      each_keeps (NodesIn s) 512 (learn_place s z Y) T m
      (λ p T' l m'.
      ⊎_elim (λ e. subst (NodesIn s) (sym e) m')
      (λ c. subst (NodesIn s) (sym c.2) (learn_nodes z (get_or Y p 0) T' (y.at p l c.0) m')) (learn_place_cases s z Y p T'))

-- ---- nodes of a sound state meet

pub network : (s t : List ℕ) → Sound s t → Network s
network s t S = record {
  long = S.long.state;
  few = S.few;
  deep = S.settings.depth_most;
  ids = id_fits s t S;
  apart = λ z u nz nu ne. omega (arith, suffix_below s t S z u nz nu ne, S.settings.digits_most);
}

pub nodes_in : (s t : List ℕ) → Sound s t → (x : ℕ) → IsNode s x → NodesIn s (table_of t x)
nodes_in s t S x n = record {
  long = (own s t S x n).long;
  at =
      λ p h some.
      record { low = omega (arith, some); high = (standing s S.settings x (table_of t x) (S.tables x n) p h some).0 };
}

pub meets : (s t : List ℕ) (x y : ℕ) → Delivers s t x y → Meets s t x y
meets s t x y d = record {
  network = network s t d.sound;
  tables = d.sound.long.tables;
  sender = d.sender;
  receiver = d.receiver;
  other = d.other;
  own = nodes_in s t d.sound x d.sender;
  theirs = nodes_in s t d.sound y d.receiver;
}

-- both can be read
pub sender_readable : (s t : List ℕ) (x y : ℕ) → Delivers s t x y → NodeReadable s x
sender_readable s t x y d = readable s (network s t d.sound) x d.sender

pub receiver_readable : (s t : List ℕ) (x y : ℕ) (s' : List ℕ) → Delivers s t x y → s' ≡ s → NodeReadable s' y
receiver_readable s t x y s' d e = rw e (readable s (network s t d.sound) y d.receiver)

-- ---- a new record for x, with its id, keeps that

module _ (s : List ℕ) (n : Network s) (x : ℕ) (nx : IsNode s x) (r : Node) (e : r.id ≡ id_of s x) where
  fits : 8 * x + 8 ≤ length s
  fits = omega (arith, n.long, n.few, nx.high)

  a : Agree x s (with_node s x r)
  a = agree_node s x fits r e

  count : node_count (with_node s x r) ≡ node_count s
  count = agree_count x s (with_node s x r) a nx.low

  there : (u : ℕ) → IsNode s u → IsNode (with_node s x r) u
  there u k = record { low = k.low; high = omega (arith, count, k.high) }

  back : (u : ℕ) → IsNode (with_node s x r) u → IsNode s u
  back u k = record { low = k.low; high = omega (arith, count, k.high) }

  pub suffix_same : (z u : ℕ) → suffix_of (with_node s x r) z u ≡ suffix_of s z u
  suffix_same z u =
      let l : 1 ≤ x = nx.low in
      ap (λ (d : ℕ). common_suffix d (id_of (with_node s x r) z) (id_of (with_node s x r) u)) (a.words 1 (inl (omega arith)))
      ∙ ap₂ (common_suffix (digits s)) (agree_id x s (with_node s x r) a z) (agree_id x s (with_node s x r) a u)

  network_node : Network (with_node s x r)
  network_node =
      let l : 1 ≤ x = nx.low in
      let deep : depth (with_node s x r) ≡ depth s = a.words 2 (inl (omega arith)) in
      record {
        long = omega (arith, node_length s x r fits, n.long);
        few = omega (arith, count, n.few);
        deep = omega (arith, deep, n.deep);
        ids = λ u k. omega (arith, agree_id x s (with_node s x r) a u, n.ids u (back u k));
        apart = λ z u nz nu ne. omega (arith, suffix_same z u, n.apart z u (back z nz) (back u nu) ne);
      }

  nodes_node : (T : List ℕ) → NodesIn s T → NodesIn (with_node s x r) T
  nodes_node T m = record { long = m.long; at = λ p h some. there (get_or T p 0) (m.at p h some) }

  pub meets_node : (t : List ℕ) (y : ℕ) → Meets s t x y → Meets (with_node s x r) t x y
  meets_node t y m = record {
    network = network_node;
    tables = m.tables;
    sender = there x nx;
    receiver = there y m.receiver;
    other = m.other;
    own = nodes_node (table_of t x) m.own;
    theirs = nodes_node (table_of t y) m.theirs;
  }

-- x has become notifying
module _ (s t s₁ : List ℕ) (x y k notified notices : ℕ) (d : Delivers s t x y) (e : s₁ ≡ with_node s x (notifying_node (node_of s x) k 0 notified notices)) where
  pub meets_notifying : Meets s₁ t x y
  meets_notifying =
      subst (λ (s : List ℕ). Meets s t x y) (sym e)
      (meets_node s (network s t d.sound) x d.sender (notifying_node (node_of s x) k 0 notified notices) refl t y (meets s t x y d))
