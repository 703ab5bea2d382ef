-- In states alike up to a number, and so on memories alike in the fixed lengths, a delivery between nodes up to there does the same. Assumes nothing.
use Prim.Native.Nat.{ℕ, ◌+◌, ◌*◌, ◌≤◌, ◌<◌}
use mathlib.Core.Path.{◌≡◌, refl, ap, fun_ext}
use mathlib.Core.List.{List}
use native.Mathlib.Decide.{ℕ_discrete, dec_lt}
use native.Mathlib.Omega.{arith}
use lib.Dec.{eqb}
use lib.ListN.{length, get_or, get_or-eq_default}
use Rattle.model.specs.Memory.{Node, node_count, node_of, level_of, notified_of, notices_of, pending_of, in_system, with_node, table_of, add_node, remove_node}
use Rattle.model.specs.Nodes.{suffix_of}
use Rattle.model.specs.Learning.{learn, learn_table}
use Rattle.model.specs.Join.{notifying_node, room_at_suffix, first_at_suffix, below_or_room, room_from, attach_level, gather, deliver_copying, deliver_sent_on, deliver_attached, deliver_waiting, deliver_notifying, delivery}
use Rattle.model.proofs.Memory.{same_status, same_level, same_pending, same_notified, same_notices, table_length}
use Rattle.model.proofs.Status.{IsNode}
use Rattle.model.proofs.Sound.{Sound, standing, node_fits, table_fits}
use Rattle.model.proofs.Alike.{LongAlike, AlikeTo, alike_to, suffix_alike, node_alike, record_same, table_same}
use Rattle.model.proofs.AlikeLearning.{Few, learn_few, learn_table_few, learn_same, learn_table_same, gather_same}

-- the numbers in a sound state's tables
pub table_few : (s t : List ℕ) → Sound s t → (n : ℕ) → node_count s ≤ n → (x : ℕ) → IsNode s x → Few n (table_of t x)
table_few s t S n most x nx p = go (dec_lt p 512) (ℕ_discrete (get_or (table_of t x) p 0) 0)
  where
    go : Dec (p < 512) → Dec (get_or (table_of t x) p 0 ≡ 0) → get_or (table_of t x) p 0 ≤ n
    go h (yes e) = omega arith
    go (yes h) (no nz) = omega (arith, (standing s S.settings x (table_of t x) (S.tables x nx) p h nz).0, most)
    go (no h) (no nz) =
        absurd (nz (get_or-eq_default (table_of t x) 0 (omega (arith, table_length t x (table_fits s t S x nx)))))

module _ {n : ℕ} {s s' : List ℕ} (a : AlikeTo n s s') (x y : ℕ) (low : 1 ≤ x) (hx : x ≤ n) (hy : y ≤ n) (r : node_of s' x ≡ node_of s x)
    (fits : 8 * x + 8 ≤ length s) (fits' : 8 * x + 8 ≤ length s') (Tx Ty : List ℕ) (fx : Few n Tx) (fy : Few n Ty) where
  h : suffix_of s' x y ≡ suffix_of s x y
  h = suffix_alike a x y hx hy

  first_same : first_at_suffix s' Ty x y ≡ first_at_suffix s Ty x y
  first_same = cc (h, a.ids x hx)

  room_same : room_at_suffix s' Ty x y ≡ room_at_suffix s Ty x y
  room_same = cc (h, a.ids x hx, a.depth)

  copying_same : deliver_copying s' x y Tx Ty ≡ deliver_copying s x y Tx Ty
  unfolding deliver_copying
  copying_same =
      cc (
        r,
        first_same,
        room_same,
        learn_table_same a x hx Ty Tx fy,
        ap (λ (v : ℕ). eqb v in_system) (a.statuses (first_at_suffix s Ty x y) (fy _)),
      )

  sent_on_same : deliver_sent_on s' x y Tx Ty ≡ deliver_sent_on s x y Tx Ty
  unfolding deliver_sent_on
  sent_on_same = cc (r, first_same, learn_table_same a x hx Ty Tx fy)

  level_same : (m : ℕ) → attach_level s' Ty x m ≡ attach_level s Ty x m
  unfolding attach_level
  level_same m = cc (fun_ext {f = room_from s' Ty x m} {g = room_from s Ty x m} (λ k. cc (below k)))
    where
      below : (k : ℕ) → below_or_room s' Ty x k ≡ below_or_room s Ty x k
      below k = fun_ext (λ i. cc (a.ids x hx, a.depth))

  attached_same : deliver_attached s' x y Tx Ty ≡ deliver_attached s x y Tx Ty
  unfolding deliver_attached
  attached_same =
      cc (
        r,
        same_notices r,
        h,
        level_same (suffix_of s x y),
        learn_table_same a₁ x hx Ty Tx fy,
        learn_same a₁ y hy x Ty hx,
        gather_same a x hx k (add_node 0 y) (learn_table s₁ x Ty Tx) 0 (learn_table_few n s₁ x Ty Tx fy fx),
        gather_same a x hx k (add_node 0 y) (learn s₁ y x Ty) (gather s x k (add_node 0 y) (learn_table s₁ x Ty Tx) 0) (learn_few n s₁ y x Ty fy hx),
      )
    where
      k : ℕ
      k = attach_level s Ty x (suffix_of s x y)

      told : Node
      told = notifying_node (node_of s x) k 0 (add_node 0 y) (notices_of s x)

      s₁ : List ℕ
      s₁ = with_node s x told

      a₁ : AlikeTo n s₁ (with_node s' x told)
      a₁ = node_alike a x low hx fits fits' told refl

  waiting_same : deliver_waiting s' x y Tx Ty ≡ deliver_waiting s x y Tx Ty
  unfolding deliver_waiting
  waiting_same = cc (room_same, attached_same, sent_on_same)

  notifying_same : deliver_notifying s' x y Tx Ty ≡ deliver_notifying s x y Tx Ty
  unfolding deliver_notifying
  notifying_same =
      let Y = learn s y x Ty in
      let fY = learn_few n s y x Ty fy hx in
      cc (
        r,
        same_level r,
        same_pending r,
        same_notified r,
        same_notices r,
        learn_same a y hy x Ty hx,
        learn_table_same a x hx Y Tx fY,
        gather_same a x hx (level_of s x) (add_node (notified_of s x) y) Y (remove_node (pending_of s x) y) fY,
      )

-- the tables and the sender's record are the same too
module _ (n : ℕ) (s t s' t' : List ℕ) (a : AlikeTo n s s') (S : Sound s t) (most : node_count s ≤ n) (x y : ℕ) (nx : IsNode s x) (ny : IsNode s y)
    (fits' : 8 * x + 8 ≤ length s') where
  pub delivery_alike : node_of s' x ≡ node_of s x → table_of t' x ≡ table_of t x → table_of t' y ≡ table_of t y → delivery s' t' x y ≡ delivery s t x y
  unfolding delivery
  delivery_alike r ex ey =
      cc (
        ex,
        ey,
        same_status r,
        copying_same a x y nx.low hx hy r fits fits' Tx Ty fx fy,
        waiting_same a x y nx.low hx hy r fits fits' Tx Ty fx fy,
        notifying_same a x y nx.low hx hy r fits fits' Tx Ty fx fy,
      )
    where
      hx : x ≤ n
      hx = omega (arith, nx.high, most)

      hy : y ≤ n
      hy = omega (arith, ny.high, most)

      fits : 8 * x + 8 ≤ length s
      fits = node_fits s t S x nx

      Tx : List ℕ
      Tx = table_of t x

      Ty : List ℕ
      Ty = table_of t y

      fx : Few n Tx
      fx = table_few s t S n most x nx

      fy : Few n Ty
      fy = table_few s t S n most y ny

pub delivery_same : (s t s' t' : List ℕ) → LongAlike s t s' t' → Sound s t → (x y : ℕ) → IsNode s x → IsNode s y
    → delivery s' t' x y ≡ delivery s t x y
delivery_same s t s' t' a S x y nx ny =
    let hx : x ≤ 64 = omega (arith, nx.high, S.few) in
    let hy : y ≤ 64 = omega (arith, ny.high, S.few) in
    delivery_alike 64 s t s' t' (alike_to s s' a.alike.state) S S.few x y nx ny (omega (arith, a.long'.state, hx))
    (record_same s s' a.alike.state x hx) (table_same s t s' t' a x nx.low hx) (table_same s t s' t' a y ny.low hy)
