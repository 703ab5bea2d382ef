-- A delivery that attaches its sender, or that a notifying sender makes, leaves a sound state. Assumes nothing.
use Prim.Native.Nat.{ℕ, ◌+◌, ◌*◌, ◌^◌, ◌≤◌, ◌<◌}
use mathlib.Core.Path.{◌≡◌, refl, sym, ap, subst, subst₂, ◌∙◌}
use mathlib.Core.Logic.{◌⊎◌, inl, inr, ⊎_elim}
use mathlib.Core.Bool.{true, false, ◌||◌}
use mathlib.Core.List.{List}
use native.Mathlib.Decide.{ℕ_discrete}
use native.Mathlib.Omega.{arith}
use lib.Dec.{eqb}
use lib.ListN.{length, get_or}
use lib.Pow.{pow_pos}
use borrow.Author.Tests.{eqb-true}
use Rattle.model.specs.Memory.{base, digits, depth, node_count, Node, node_of, status_of, level_of, pending_of, notified_of, notices_of, with_node, notifying, set_size}
use Rattle.model.specs.Memory.{is_in_system, is_attached, has_node, add_node, remove_node, table_of, with_table}
use Rattle.model.specs.Learning.{learn, learn_table}
use Rattle.model.specs.Join.{Delivery, notifying_node, settle, gather, delivery, delivered}
use Rattle.model.proofs.Bools.{or_cases, not_both}
use Rattle.model.proofs.Sets.{has_none, has_add, has_add_other, has_remove, add_within, remove_le}
use Rattle.model.proofs.SetSizes.{size_none}
use Rattle.model.proofs.Memory.{same_status, node_stored}
use Rattle.model.proofs.Status.{IsNode, node_among, PendingOk, NotifiedOk, NotifyingOk, RecordOk, ok_notifying, rests, attached_notifying, attached_same, notifying_out}
use Rattle.model.proofs.NodeCounts.{CountsOk}
use Rattle.model.proofs.Settling.{Settling, settles, stays, settle_attached}
use Rattle.model.proofs.Ids.{InRange}
use Rattle.model.proofs.Sound.{standing, Sound, node_fits}
use Rattle.model.proofs.LearningKeepsRules.{OwnTable}
use Rattle.model.proofs.Later.{Later}
use Rattle.model.proofs.ReplacingKeepsSound.{Agree, agree_refl, agree_node, agree_both, agree_count, agree_kept, agree_later, replaced_ok}
use Rattle.model.proofs.Gather.{ToNotify, Gathered, gather_has, gather_within}
use Rattle.model.proofs.SoundNodes.{own_later, own, suffix_below, range, learned_table, learned_node}
use Rattle.model.proofs.Sender.{CanDeliver, Receiver}
use Rattle.model.proofs.DeliveryDid.{Tells, Attaches, Notifies, level_at, state_at, own_at, to_receiver}
use Rattle.model.proofs.TablesOnlyGrow.{delivered_id, sender_out, delivered_later, attach_record, attach_agree}
use Rattle.model.proofs.RequestBound.{not_itself, none_answered, telling_counts}

-- ---- what is gathered from a table

-- T is the table of z in s', which is s but for x's record
module _ (s : List ℕ) (x : ℕ) (nx : IsNode s x) (s' : List ℕ) (a : Agree x s s') (range : InRange (base s') (digits s') (depth s'))
    (z : ℕ) (T : List ℕ) (o : OwnTable s' z T) where
  stands_within : (p : ℕ) → p < 512 → get_or T p 0 ≤ node_count s
  stands_within p h = go (ℕ_discrete (get_or T p 0) 0)
    where
      go : Dec (get_or T p 0 ≡ 0) → get_or T p 0 ≤ node_count s
      go (yes e) = omega arith
      go (no nz) = omega (arith, (standing s' range z T o.rules p h nz).0, agree_count x s s' a nx.low)

  -- a gathered node is due, where z is x or attached
  gathered_due : ((z ≡ x) ⊎ (is_attached s z ≡ true)) → (k notified u : ℕ) → Gathered s x k notified T u → PendingOk s x k notified u
  gathered_due za k notified u g =
      let n : ToNotify s x k notified u = g.to_notify in
      let f = standing s' range z T o.rules g.place g.within (λ e. n.some (sym g.stands ∙ e)) in
      let may : (eqb u z || is_attached s' u) ≡ true = rw g.stands at f.1 in
      record {
        attached =
            ⊎_elim
            (λ e.
            let w : u ≡ z = eqb-true u z e in
            ⊎_elim (λ q. absurd (n.other (w ∙ q))) (λ q. ap (is_attached s) w ∙ q) za)
            (λ q. sym (attached_same s s' u (agree_kept x s s' a u n.other)) ∙ q)
            (or_cases (eqb u z) (is_attached s' u) may);
        suffix = n.suffix;
        other = n.other;
        new = n.new;
      }

-- ---- x and y learn from each other in s', which is s with x notifying

module _ (s t : List ℕ) (S : Sound s t) (x y : ℕ) (c : CanDeliver s x y) (s' : List ℕ) (a : Agree x s s') (status' : status_of s' x ≡ notifying) where
  abbrev nx : IsNode s x
  nx = c.sender

  abbrev ny : IsNode s y
  ny = c.receiver

  r : Receiver s x y
  r = to_receiver s t S x y c

  attached' : is_attached s' x ≡ true
  attached' = attached_notifying s' x status'

  l : Later s s'
  l = agree_later x s s' a nx.low (λ q. attached') (λ q. absurd (not_both (is_in_system s x) q (sender_out s t S x y c)))

  ranged : InRange (base s') (digits s') (depth s')
  ranged = range s t S s' l

  same_count : node_count s' ≡ node_count s
  same_count = agree_count x s s' a nx.low

  on : (z : ℕ) → IsNode s z → IsNode s' z
  on = node_among s s' (omega (arith, same_count))

  abbrev Ty' : List ℕ
  Ty' = learn s' y x (table_of t y)

  theirs : OwnTable s' y Ty'
  theirs = learned_node s t S s' l same_count y ny x nx (λ e. r.other (sym e)) attached'

  -- x has learned a table of y
  module _ (seen : List ℕ) (o : OwnTable s' y seen) where
    mine : OwnTable s' x (learn_table s' x seen (table_of t x))
    mine = learned_table s t S s' l same_count x nx y (l.attached y ny r.attached) seen o

    -- and tells y; `before` and `rest` are its sets before that
    module _ (k before rest : ℕ) (level : k < digits s) (before_within : before < 2 ^ node_count s) (rest_within : rest < 2 ^ node_count s)
        (done : (u : ℕ) → IsNode s u → has_node before u ≡ true → NotifiedOk s x u)
        (due : (u : ℕ) → IsNode s u → has_node rest u ≡ true → PendingOk s x k (add_node before y) u)
        (notices : ℕ) (counted : notices ≡ set_size before) (yet : has_node before y ≡ false)
        (w : Tells s t x y (delivery s t x y) s' seen k (gather s x k (add_node before y) Ty' rest) (add_node before y) notices) where
      abbrev d : Delivery
      d = delivery s t x y

      abbrev pending : ℕ
      pending = gather s x k (add_node before y) Ty' rest

      abbrev full : Node
      full = notifying_node (node_of s x) k pending (add_node before y) notices

      abbrev s₁ : List ℕ
      s₁ = with_node s x d.sender

      fits : 8 * x + 8 ≤ length s
      fits = node_fits s t S x nx

      a₁ : Agree x s s₁
      a₁ = agree_node s x fits d.sender (delivered_id s t S x y c)

      l₁ : Later s s₁
      unfolding delivered
      l₁ = delivered_later s t S x y c

      on₁ : (z : ℕ) → IsNode s z → IsNode s₁ z
      on₁ = node_among s s₁ (omega (arith, agree_count x s s₁ a₁ nx.low))

      l₂ : Later s' s₁
      l₂ =
          agree_later x s' s₁ (agree_both x s s' s₁ a a₁) nx.low (λ q. settle_attached full refl s₁ x (node_stored s x d.sender fits ∙ w.sender))
          (λ q. absurd (not_both (is_in_system s' x) q (notifying_out s' x status')))

      rules : Settling full → RecordOk s x (settle full)
      rules (settles p q) = subst (RecordOk s x) (sym q) (rests s x full)
      rules (stays p q) = subst (RecordOk s x) (sym q) (ok_notifying refl record {
        target = refl;
        level = level;
        some = p;
        pending_within = gather_within s x k (add_node before y) Ty' rest (node_count s) rest_within (stands_within s x nx s' a ranged y Ty' theirs);
        notified_within = add_within before (node_count s) y before_within ny.low ny.high;
        pending =
            λ u n h.
            ⊎_elim (due u n) (gathered_due s x nx s' a ranged y Ty' theirs (inr r.attached) k (add_node before y) u)
            (gather_has s x k (add_node before y) Ty' rest u n.low h);
        notified =
            λ u n h.
            ⊎_elim (λ e. record { attached = ap (is_attached s) e ∙ r.attached; other = λ q. r.other (sym e ∙ q) }) (done u n)
            (has_add before y u ny.low n.low h);
      })

      tells_ok : Sound (delivered s t x y d).state (delivered s t x y d).tables
      unfolding delivered
      tells_ok =
          subst₂ (λ (Tx Ty : List ℕ). Sound s₁ (with_table (with_table t y Ty) x Tx)) (sym w.own) (sym w.theirs)
          (replaced_ok s t x y d.sender (learn_table s' x seen (table_of t x)) Ty' S nx ny (delivered_id s t S x y c) l₁
          (own_later s' s₁ l₂ x (learn_table s' x seen (table_of t x)) (on x nx) (on₁ x nx) mine)
          (own_later s' s₁ l₂ y Ty' (on y ny) (on₁ y ny) theirs) (subst (RecordOk s x) (sym w.sender) (rules w.settling))
          (subst (CountsOk s x) (sym w.sender) (telling_counts s t S x nx y k pending before notices ny yet (not_itself s x nx before done) r.other counted w.settling)))

-- ---- the two cases

module _ (s t : List ℕ) (S : Sound s t) (x y : ℕ) (c : CanDeliver s x y) where
  pub attaches_ok : Attaches s t x y (delivery s t x y)
      → Sound (delivered s t x y (delivery s t x y)).state (delivered s t x y (delivery s t x y)).tables
  attaches_ok w =
      tells_ok s t S x y c s' a status' (table_of t y) seen k 0 (own_at s t x y)
      (omega (arith, w.low, suffix_below s t S x y c.sender c.receiver (to_receiver s t S x y c).other)) (pow_pos (node_count s))
      (gather_within s x k (add_node 0 y) Tx' 0 (node_count s) (pow_pos (node_count s)) (stands_within s x c.sender s' a range' x Tx' own'))
      (λ u n h. absurd (none u h))
      (λ u n h.
      ⊎_elim (λ q. absurd (none u q)) (gathered_due s x c.sender s' a range' x Tx' own' (inl refl) k (add_node 0 y) u)
      (gather_has s x k (add_node 0 y) Tx' 0 u n.low h)) (notices_of s x)
      (none_answered s t S x c.sender (λ q. omega (arith, q, w.status)) (λ q. omega (arith, q, w.status)) ∙ sym size_none) (has_none y) w.tells
    where
      k : ℕ
      k = level_at s t x y

      s' : List ℕ
      s' = state_at s t x y

      a : Agree x s s'
      a = attach_agree s t S x y c

      status' : status_of s' x ≡ notifying
      status' = same_status (attach_record s t S x y c)

      range' : InRange (base s') (digits s') (depth s')
      range' = ranged s t S x y c s' a status'

      seen : OwnTable s' y (table_of t y)
      seen = own_later s s' (l s t S x y c s' a status') y (table_of t y) c.receiver (on s t S x y c s' a status' y c.receiver) (own s t S y c.receiver)

      Tx' : List ℕ
      Tx' = learn_table s' x (table_of t y) (table_of t x)

      own' : OwnTable s' x Tx'
      own' = mine s t S x y c s' a status' (table_of t y) seen

      none : (u : ℕ) → has_node 0 u ≡ true → ⊥
      none u q = not_both (has_node 0 u) q (has_none u)

  pub notifies_ok : Notifies s t x y (delivery s t x y)
      → Sound (delivered s t x y (delivery s t x y)).state (delivered s t x y (delivery s t x y)).tables
  notifies_ok w =
      tells_ok s t S x y c s a w.status (learn s y x (table_of t y)) (theirs s t S x y c s a w.status) (level_of s x) (notified_of s x)
      (remove_node (pending_of s x) y) o.level o.notified_within (omega (arith, remove_le (pending_of s x) y, o.pending_within))
      o.notified still_due (notices_of s x + 1) ((S.counts x c.sender).notices.less_one w.status) (o.pending y c.receiver w.pending).new w.tells
    where
      o : NotifyingOk s x (node_of s x)
      o = w.rules

      a : Agree x s s
      a = agree_refl x s

      -- a node that was pending and is not y
      still_due : (u : ℕ) → IsNode s u → has_node (remove_node (pending_of s x) y) u ≡ true → PendingOk s x (level_of s x) (add_node (notified_of s x) y) u
      still_due u n h =
          let q = has_remove (pending_of s x) y u c.receiver.low n.low h in
          let f = o.pending u n q.1 in
          record {
            attached = f.attached;
            suffix = f.suffix;
            other = f.other;
            new = has_add_other (notified_of s x) y u c.receiver.low n.low q.0 ∙ f.new;
          }
