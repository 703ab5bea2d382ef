-- One join from a yes on, delivery by delivery: how many of them were taken, and what each leaves. s₀ and t₀ are the memory at the yes, and x is the node that
-- joins. Assumes nothing.
use Prim.Native.Nat.{ℕ, ◌+◌, ◌^◌, ◌≤◌, ◌<◌}
use mathlib.Core.Path.{◌≡◌, sym, ap, subst, subst₃, ◌∙◌}
use mathlib.Core.Logic.{◌≢◌, ◌⊎◌, inl, inr}
use mathlib.Core.Bool.{true, false}
use mathlib.Core.List.{List}
use native.Mathlib.Decide.{ℕ_discrete}
use native.Mathlib.Omega.{arith}
use lib.Pow.{pow_pos}
use borrow.Author.Tests.{eq-eqb}
use Rattle.model.specs.Memory.{digits, node_count, Node, node_of, status_of, level_of, pending_of, notified_of, requests_of, notices_of, in_system, notifying, is_in_system, is_attached}
use Rattle.model.specs.Memory.{has_node, add_node, remove_node, set_size, table_of}
use Rattle.model.specs.Nodes.{suffix_of}
use Rattle.model.specs.Learning.{floor_of, learn}
use Rattle.model.specs.Join.{Delivery, notifying_node, gather, begun, delivery, delivered}
use Rattle.model.proofs.Bools.{not_both}
use Rattle.model.proofs.Sets.{has_none, has_added, has_remove_other, add_within}
use Rattle.model.proofs.SetSizes.{size_add, size_within}
use Rattle.model.proofs.Memory.{same_status, same_level, same_pending, same_notified, same_requests, same_notices}
use Rattle.model.proofs.Status.{IsNode, PendingOk, attached_in_system, attached_notifying, notifying_out, copying_away, waiting_away}
use Rattle.model.proofs.Sound.{Sound}
use Rattle.model.proofs.RequestBound.{requests_most, none_answered}
use Rattle.model.proofs.BeginningKeepsSound.{CanBegin, begun_ok, begun_count, begun_new}
use Rattle.model.proofs.Sender.{CanDeliver}
use Rattle.model.proofs.Settling.{Settling, settles, stays}
use Rattle.model.proofs.DeliveryDid.{asking_away, AsksOn, Tells, state_at, level_at, own_at, Attaches, Notifies, Did, did_ask, did_attach, did_notify, delivery_did, node_at}
use Rattle.model.proofs.ReplacingKeepsSound.{Agree, agree_refl}
use Rattle.model.proofs.DeliveryKeepsSound.{delivered_ok}
use Rattle.model.proofs.TablesOnlyGrow.{Attached, settled_attached, Onward, onward_trans, begun_onward, sender_out, delivered_count, delivered_record, delivered_onward, attach_record, attach_agree}
use Rattle.model.proofs.Progress.{only_own}
use Rattle.model.proofs.Consistency.{Whole}
use Rattle.model.proofs.Floors.{floor_notifying}
use Rattle.model.proofs.Reaching.{Yes, Reaching, yes_reaching, begun_reaching, delivered_reaching}
use Rattle.model.proofs.Told.{old_node, Told, told_due, told_whole}
use Rattle.model.proofs.Telling.{receiver_old, attach_low, telling}

module _ (s₀ t₀ : List ℕ) (Y : Yes s₀ t₀) where
  abbrev x : ℕ
  x = node_count s₀ + 1

  -- where x is, and that at most n of its deliveries were taken
  pub data Stage (s t : List ℕ) (n : ℕ) : Type 0 where
    asks : is_attached s (node_count s₀ + 1) ≡ false → n + 1 ≤ requests_of s (node_count s₀ + 1) → Stage s t n
    tells : status_of s (node_count s₀ + 1) ≡ notifying → n ≤ requests_of s (node_count s₀ + 1) + notices_of s (node_count s₀ + 1)
        → Told s₀ t₀ Y s t (level_of s (node_count s₀ + 1)) (λ v. has_node (pending_of s (node_count s₀ + 1)) v ≡ true) (notified_of s (node_count s₀ + 1))
        → Stage s t n
    settled : is_in_system s (node_count s₀ + 1) ≡ true → n ≤ digits s₀ + node_count s₀ → Whole s t → Stage s t n

  pub record Alone (s t : List ℕ) (n : ℕ) : Type 0 where
    pub sound : Sound s t
    pub onward : Onward s₀ t₀ s t
    pub count : node_count s ≡ node_count s₀ + 1
    pub reaching : Reaching s₀ s t
    pub stage : Stage s t n

  -- ---- what that says

  module _ (s t : List ℕ) (n : ℕ) (A : Alone s t n) where
    pub joiner : IsNode s (node_count s₀ + 1)
    joiner = record { low = omega arith; high = omega (arith, A.count) }

    -- all others are in system
    pub others : (u : ℕ) → IsNode s u → u ≢ node_count s₀ + 1 → is_in_system s u ≡ true
    others u nu e = A.reaching.in_system u (old_node s₀ t₀ Y A.count u nu e)

    -- no more deliveries were taken than d and the nodes at the yes, together
    pub alone_bound : n ≤ digits s₀ + node_count s₀
    alone_bound = go A.stage
      where
        few : requests_of s x ≤ digits s₀ + 1
        few = omega (arith, requests_most s t A.sound x joiner, A.onward.digits)

        go : Stage s t n → n ≤ digits s₀ + node_count s₀
        go (asks e l) = omega (arith, l, few)
        go (tells e l T) =
            omega (arith, l, few, (A.sound.counts x joiner).notices.less_one e, size_within (notified_of s x) (node_count s₀) T.old)
        go (settled e l w) = l

    -- and once x is in system the network is whole
    pub alone_whole : is_in_system s (node_count s₀ + 1) ≡ true → Whole s t
    alone_whole e = go A.stage
      where
        go : Stage s t n → Whole s t
        go (asks f l) = absurd (not_both (is_attached s x) (attached_in_system s x e) f)
        go (tells f l T) = absurd (not_both (is_in_system s x) e (notifying_out s x f))
        go (settled f l w) = w

  -- ---- it begins

  pub begun_alone : (id gateway : ℕ) → CanBegin s₀ id gateway → Alone (begun s₀ t₀ id gateway).state (begun s₀ t₀ id gateway).tables 0
  begun_alone id gateway c =
      let new = begun_new s₀ t₀ id gateway Y.sound c in
      record {
        sound = begun_ok s₀ t₀ id gateway Y.sound c;
        onward = begun_onward s₀ t₀ id gateway Y.sound c;
        count = begun_count s₀ t₀ id gateway Y.sound c;
        reaching = begun_reaching s₀ s₀ t₀ id gateway Y.sound c (yes_reaching s₀ t₀ Y);
        stage = asks (copying_away (begun s₀ t₀ id gateway).state x (same_status new)) (omega (arith, same_requests new));
      }

  -- ---- a delivery of x

  module _ (s t : List ℕ) (n : ℕ) (A : Alone s t n) (y : ℕ) (c : CanDeliver s (node_count s₀ + 1) y) where
    abbrev d : Delivery
    d = delivery s t (node_count s₀ + 1) y

    abbrev s₁ : List ℕ
    s₁ = (delivered s t (node_count s₀ + 1) y (delivery s t (node_count s₀ + 1) y)).state

    abbrev t₁ : List ℕ
    t₁ = (delivered s t (node_count s₀ + 1) y (delivery s t (node_count s₀ + 1) y)).tables

    S : Sound s t
    S = A.sound

    on₁ : Onward s₀ t₀ s₁ t₁
    on₁ = onward_trans A.onward (delivered_onward s t S x y c)

    R₁ : Reaching s₀ s₁ t₁
    R₁ = delivered_reaching s₀ s t S x y c A.reaching

    count₁ : node_count s₁ ≡ node_count s₀ + 1
    count₁ = delivered_count s t S x y c ∙ A.count

    stored : {r : Node} → d.sender ≡ r → node_of s₁ x ≡ r
    stored e = delivered_record s t S x y c ∙ e

    ny : IsNode s₀ y
    ny = receiver_old s₀ t₀ Y s t S A.onward A.count A.reaching y c

    -- x goes on asking
    asked : AsksOn s t x y d → n + 1 ≤ requests_of s x → Stage s₁ t₁ (n + 1)
    asked w l = asks (asking_away w.how s₁ (same_status (stored w.sender))) (omega (arith, l, same_requests (stored w.sender)))

    -- x tells y; `before` are those that it has told, and it settles if nobody is due then
    module _ (s' seen : List ℕ) (a : Agree x s s') (k before rest notices : ℕ) (floor : floor_of s' x ≡ k) (reach : k ≤ suffix_of s x y)
        (T : Told s₀ t₀ Y s t k (λ v. (has_node rest v ≡ true) ⊎ (v ≡ y)) before) (few : notices + 1 ≤ node_count s₀) (l : n + 1 ≤ requests_of s x + notices)
        (w : Tells s t x y d s' seen k (gather s x k (add_node before y) (learn s' y x (table_of t y)) rest) (add_node before y) notices) where
      abbrev told : ℕ
      told = add_node before y

      abbrev pending : ℕ
      pending = gather s x k (add_node before y) (learn s' y x (table_of t y)) rest

      T₁ : Told s₀ t₀ Y s₁ t₁ k (λ v. has_node pending v ≡ true) told
      T₁ = telling s₀ t₀ Y s t S A.onward A.count A.reaching y c s' a k before rest floor reach T w.theirs

      nobody : pending ≡ 0 → Told s₀ t₀ Y s₁ t₁ k (λ v. ⊥) told
      nobody p = told_due s₀ t₀ Y (λ v low h. not_both (has_node pending v) h (ap (λ (a : ℕ). has_node a v) p ∙ has_none v)) T₁

      tells_y : Stage s₁ t₁ (n + 1)
      tells_y = go w.settling
        where
          go : Settling (notifying_node (node_of s x) k pending told notices) → Stage s₁ t₁ (n + 1)
          go (settles p q) =
              let e : is_in_system s₁ x ≡ true = eq-eqb (status_of s₁ x) in_system (same_status (stored (w.sender ∙ q))) in
              let joined : Attached s₁ x =
              settled_attached s₁ x (record { low = omega arith; high = omega (arith, count₁) }) e in
              settled e (omega (arith, l, few, requests_most s t S x c.sender, A.onward.digits))
              (told_whole s₀ t₀ Y s₁ t₁ (delivered_ok s t S x y c) on₁ count₁ R₁ k told (nobody p) y ny (has_added before y) joined)
          go (stays p q) =
              let r = stored (w.sender ∙ q) in
              tells (same_status r) (omega (arith, l, same_requests r, same_notices r))
              (subst₃ (λ (k pending told : ℕ). Told s₀ t₀ Y s₁ t₁ k (λ v. has_node pending v ≡ true) told) (sym (same_level r)) (sym (same_pending r))
              (sym (same_notified r)) T₁)

    attaching : Attaches s t x y d → n + 1 ≤ requests_of s x → Stage s₁ t₁ (n + 1)
    attaching w l =
        tells_y (state_at s t x y) (table_of t y) (attach_agree s t S x y c) (level_at s t x y) 0 (own_at s t x y) (notices_of s x)
        (floor_notifying (state_at s t x y) x (same_status here) ∙ same_level here) w.low none
        (omega (arith, none_answered s t S x c.sender (λ q. omega (arith, q, w.status)) (λ q. omega (arith, q, w.status)), Y.sound.some))
        (omega (arith, l)) w.tells
      where
        here : node_of (state_at s t x y) x ≡ node_at s t x y
        here = attach_record s t S x y c

        nobody_told : (u : ℕ) → has_node 0 u ≡ true → ⊥
        nobody_told u h = not_both (has_node 0 u) h (has_none u)

        none : Told s₀ t₀ Y s t (level_at s t x y) (λ v. (has_node (own_at s t x y) v ≡ true) ⊎ (v ≡ y)) 0
        none = record {
          old = pow_pos (node_count s₀);
          near = λ u n h. absurd (nobody_told u h);
          low = λ u n i less low hi. attach_low s₀ t₀ Y s t S A.onward A.count A.reaching y c w u n i less low;
          high = λ u n h. absurd (nobody_told u h);
          closed = λ u n h. absurd (nobody_told u h);
        }

    noticing : Notifies s t x y d → n ≤ requests_of s x + notices_of s x
        → Told s₀ t₀ Y s t (level_of s x) (λ v. has_node (pending_of s x) v ≡ true) (notified_of s x) → Stage s₁ t₁ (n + 1)
    noticing w l T =
        tells_y s (learn s y x (table_of t y)) (agree_refl x s) (level_of s x) (notified_of s x) (remove_node (pending_of s x) y) (notices_of s x + 1)
        (floor_notifying s x w.status) due.suffix (told_due s₀ t₀ Y left T)
        (omega (arith, (S.counts x c.sender).notices.less_one w.status, more, size_within (add_node (notified_of s x) y) (node_count s₀) within))
        (omega (arith, l)) w.tells
      where
        due : PendingOk s x (level_of s x) (notified_of s x) y
        due = w.rules.pending y c.receiver w.pending

        more : set_size (add_node (notified_of s x) y) ≡ set_size (notified_of s x) + 1
        more = size_add (notified_of s x) y ny.low (omega (arith, c.receiver.high, S.few)) due.new

        within : add_node (notified_of s x) y < 2 ^ node_count s₀
        within = add_within (notified_of s x) (node_count s₀) y T.old ny.low ny.high

        left : (v : ℕ) → 1 ≤ v → has_node (pending_of s x) v ≡ true → (has_node (remove_node (pending_of s x) y) v ≡ true) ⊎ (v ≡ y)
        left v low h = go (ℕ_discrete v y)
          where
            go : Dec (v ≡ y) → (has_node (remove_node (pending_of s x) y) v ≡ true) ⊎ (v ≡ y)
            go (yes e) = inr e
            go (no e) = inl (has_remove_other (pending_of s x) y v ny.low low e ∙ h)

    next : Stage s t n → Did s t x y d → Stage s₁ t₁ (n + 1)
    next (asks e l) (did_ask w) = asked w l
    next (asks e l) (did_attach w) = attaching w l
    next (asks e l) (did_notify w) = absurd (not_both (is_attached s x) (attached_notifying s x w.status) e)
    next (tells e l T) (did_ask w) = absurd (not_both (is_attached s x) (attached_notifying s x e) w.away)
    next (tells e l T) (did_attach w) = absurd (not_both (is_attached s x) (attached_notifying s x e) (waiting_away s x w.status))
    next (tells e l T) (did_notify w) = noticing w l T
    next (settled e l w) did = absurd (not_both (is_in_system s x) e (sender_out s t S x y c))

    own_alone : Alone s₁ t₁ (n + 1)
    own_alone = record {
      sound = delivered_ok s t S x y c;
      onward = on₁;
      count = count₁;
      reaching = R₁;
      stage = next A.stage (delivery_did s t S x y c);
    }

  -- every delivery that can be taken is one of x
  pub delivered_alone : (s t : List ℕ) (n : ℕ) → Alone s t n → (z y : ℕ) → CanDeliver s z y
      → (z ≡ node_count s₀ + 1) × Alone (delivered s t z y (delivery s t z y)).state (delivered s t z y (delivery s t z y)).tables (n + 1)
  delivered_alone s t n A z y c =
      let e = only_own s t A.sound x (joiner s t n A) (others s t n A) z y c in (
        e,
        subst (λ (z : ℕ). CanDeliver s z y → Alone (delivered s t z y (delivery s t z y)).state (delivered s t z y (delivery s t z y)).tables (n + 1)) (sym e)
            (own_alone s t n A y) c,
      )
