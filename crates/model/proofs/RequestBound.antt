-- How the counts of a delivery's sender keep their rules: each copy or wait request comes with a limit that is higher by one or more, and each
-- answered notice with a notified node more. Assumes nothing.
use Prim.Native.Nat.{ℕ, ◌+◌, ◌≤◌, ◌<◌}
use mathlib.Core.Path.{◌≡◌, refl, sym, ap, subst, ◌∙◌}
use mathlib.Core.Logic.{◌≢◌, inl, ◌⊎◌, inr, ⊎_elim}
use mathlib.Core.Bool.{true, false}
use mathlib.Core.List.{List}
use native.Mathlib.Omega.{arith}
use Rattle.model.specs.Memory.{digits, Node, node_of, status_of, target_of, notified_of, requests_of, notices_of, in_system, copying, waiting, notifying, has_node, add_node, set_size}
use Rattle.model.specs.Nodes.{suffix_of}
use Rattle.model.specs.Join.{Delivery, joining_node, notifying_node, settle, delivery}
use Rattle.model.proofs.Bools.{true_or_false}
use Rattle.model.proofs.SetSizes.{size_add, size_room}
use Rattle.model.proofs.Sets.{has_add_other}
use Rattle.model.proofs.Memory.{same_status, same_target}
use Rattle.model.proofs.Status.{IsNode, NotifiedOk, StatusOk, ok_in_system, ok_copying, ok_waiting, ok_notifying, attached_in_system, attached_other, copying_away, waiting_away}
use Rattle.model.proofs.NodeCounts.{limit_of, NoticesOk, CountsOk, joining_counts}
use Rattle.model.proofs.Settling.{Settling, settles, stays}
use Rattle.model.proofs.Sound.{Sound}
use Rattle.model.proofs.SoundNodes.{suffix_below}
use Rattle.model.proofs.Sender.{CanDeliver}
use Rattle.model.proofs.DeliveryDid.{Asking, copies_on, starts_waiting, waits_on, AsksOn, Tells, Did, did_ask, did_attach, did_notify, delivery_did}

-- a node has not notified itself
pub not_itself : (s : List ℕ) (x : ℕ) → IsNode s x → (notified : ℕ) → ((u : ℕ) → IsNode s u → has_node notified u ≡ true → NotifiedOk s x u)
    → has_node notified x ≡ false
not_itself s x nx notified rules =
    ⊎_elim (λ h. absurd ((rules x nx h).other refl)) (λ h. h) (true_or_false (has_node notified x))

-- ---- in a sound state

module _ (s t : List ℕ) (S : Sound s t) (x : ℕ) (nx : IsNode s x) where
  -- the rule of the first count, where the status has this number
  within : (n : ℕ) → status_of s x ≡ n → requests_of s x ≤ limit_of (digits s) n (suffix_of s x (target_of s x))
  within n e = subst (λ (v : ℕ). requests_of s x ≤ limit_of (digits s) v (suffix_of s x (target_of s x))) e (S.counts x nx).requests

  below : IsNode s (target_of s x) → target_of s x ≢ x → suffix_of s x (target_of s x) < digits s
  below n e = suffix_below s t S x (target_of s x) nx n e

  -- no node has sent more than d + 1 copy and wait requests
  pub requests_most : requests_of s x ≤ digits s + 1
  requests_most = go (S.statuses x nx)
    where
      go : StatusOk s x → requests_of s x ≤ digits s + 1
      go (ok_in_system e o) = within in_system e
      go (ok_copying e o) =
          omega (
            arith,
            within copying e,
            below o.is_node (attached_other s x (target_of s x) (copying_away s x e) (attached_in_system s (target_of s x) o.in_system)),
          )
      go (ok_waiting e o) =
          omega (arith, within waiting e, below o.is_node (attached_other s x (target_of s x) (waiting_away s x e) o.attached))
      go (ok_notifying e o) = within notifying e

  -- and no node has more than 62 answered notices
  pub notices_most : notices_of s x ≤ 62
  notices_most = go (S.statuses x nx)
    where
      rules : NoticesOk (node_of s x)
      rules = (S.counts x nx).notices

      go : StatusOk s x → notices_of s x ≤ 62
      go (ok_in_system e o) = rules.few e
      go (ok_copying e o) = omega (arith, rules.none (λ q. omega (arith, e, q)) (λ q. omega (arith, e, q)))
      go (ok_waiting e o) = omega (arith, rules.none (λ q. omega (arith, e, q)) (λ q. omega (arith, e, q)))
      go (ok_notifying e o) =
          omega (
            arith,
            rules.less_one e,
            size_room (notified_of s x) x nx.low (omega (arith, nx.high, S.few)) (not_itself s x nx (notified_of s x) o.notified),
          )

  -- a node that has not attached yet has no answered notice
  pub none_answered : status_of s x ≢ in_system → status_of s x ≢ notifying → notices_of s x ≡ 0
  none_answered = (S.counts x nx).notices.none

  -- ---- a node that tells y, and notifies or settles

  pub telling_counts : (y level pending before notices : ℕ) → IsNode s y → has_node before y ≡ false → has_node before x ≡ false → y ≢ x
      → notices ≡ set_size before → Settling (notifying_node (node_of s x) level pending (add_node before y) notices)
      → CountsOk s x (settle (notifying_node (node_of s x) level pending (add_node before y) notices))
  telling_counts y level pending before notices ny new out other e = go
    where
      full : Node
      full = notifying_node (node_of s x) level pending (add_node before y) notices

      one_more : set_size (add_node before y) ≡ set_size before + 1
      one_more = size_add before y ny.low (omega (arith, ny.high, S.few)) new

      room : set_size (add_node before y) ≤ 63
      room =
          size_room (add_node before y) x nx.low (omega (arith, nx.high, S.few))
          (has_add_other before y x ny.low nx.low (λ q. other (sym q)) ∙ out)

      go : Settling (notifying_node (node_of s x) level pending (add_node before y) notices)
          → CountsOk s x (settle (notifying_node (node_of s x) level pending (add_node before y) notices))
      go (settles p q) = subst (CountsOk s x) (sym q) record {
        requests = requests_most;
        notices = record {
          few = λ w. omega (arith, e, one_more, room);
          less_one = λ w. absurd (omega (arith, w));
          none = λ a b. absurd (a refl);
        };
      }
      go (stays p q) = subst (CountsOk s x) (sym q) record {
        requests = requests_most;
        notices = record {
          few = λ w. absurd (omega (arith, w));
          less_one = λ w. omega (arith, e, one_more);
          none = λ a b. absurd (b refl);
        };
      }

-- ---- a node that asks on

-- a node that a delivery leaves copying or waiting has a target that it matches in more digits than y, but for the one step from copying
-- to waiting at the same target
pub record Moves (s : List ℕ) (x y : ℕ) (d : Delivery) : Type 0 where
  pub on : (d.sender.status ≡ copying) ⊎ (d.sender.status ≡ waiting)
      → (suffix_of s x y < suffix_of s x d.sender.target)
      ⊎ ((status_of s x ≡ copying) × (d.sender.status ≡ waiting) × (d.sender.target ≡ y))

module _ (s t : List ℕ) (S : Sound s t) (x y : ℕ) (c : CanDeliver s x y) where
  abbrev d : Delivery
  d = delivery s t x y

  module _ (w : AsksOn s t x y d) where
    abbrev near : ℕ
    near = suffix_of s x w.target

    -- from the status `was` to the status `now`
    rises : (was now : ℕ) → status_of s x ≡ was → was ≢ in_system → was ≢ notifying → w.status ≡ now → (now ≡ copying) ⊎ (now ≡ waiting)
        → limit_of (digits s) was (suffix_of s x y) + 1 ≤ limit_of (digits s) now near
        → CountsOk s x (joining_node (node_of s x) w.status w.target)
    rises was now e a b q j h =
        joining_counts s x (node_of s x) w.status w.target (⊎_elim (λ g. inl (q ∙ g)) (λ g. inr (q ∙ g)) j)
        (none_answered s t S x c.sender (λ g. a (sym e ∙ g)) (λ g. b (sym e ∙ g)))
        (omega (
          arith,
          within s t S x c.sender was e,
          ap (λ (z : ℕ). limit_of (digits s) was (suffix_of s x z)) w.requested,
          h,
          ap (λ (v : ℕ). limit_of (digits s) v near) q,
        ))

    pub asking_counts : CountsOk s x (joining_node (node_of s x) w.status w.target)
    asking_counts = go w.how
      where
        go : Asking s x y w.status w.target d.kind → CountsOk s x (joining_node (node_of s x) w.status w.target)
        go (copies_on e q k i n) = rises copying copying e (omega arith) (omega arith) q (inl refl) (omega (arith, n))
        go (starts_waiting e q k n) =
            rises copying waiting e (omega arith) (omega arith) q (inr refl)
            (⊎_elim (λ g. omega (arith, ap (suffix_of s x) g)) (λ g. omega (arith, g)) n)
        go (waits_on e q k n) = rises waiting waiting e (omega arith) (omega arith) q (inr refl) (omega (arith, n))

    nearer : suffix_of s x y < near → suffix_of s x y < suffix_of s x d.sender.target
    nearer h = subst (λ (z : ℕ). suffix_of s x y < suffix_of s x z) (sym (same_target w.sender)) h

    asking_moves : Asking s x y w.status w.target d.kind → Moves s x y d
    asking_moves (copies_on e q k i n) = record { on = λ v. inl (nearer n) }
    asking_moves (starts_waiting e q k n) = record {
      on =
          λ v.
          ⊎_elim (λ g. inr (e, same_status w.sender ∙ q, same_target w.sender ∙ g)) (λ g. inl (nearer g)) n;
    }
    asking_moves (waits_on e q k n) = record { on = λ v. inl (nearer n) }

  module _ {s' seen : List ℕ} {k pending notified notices : ℕ} (w : Tells s t x y d s' seen k pending notified notices) where
    abbrev full : Node
    full = notifying_node (node_of s x) k pending notified notices

    asks_no_more : Settling full → (n : ℕ) → n ≢ in_system → n ≢ notifying → d.sender.status ≢ n
    asks_no_more (settles p q) n a b e = a (sym e ∙ same_status (w.sender ∙ q))
    asks_no_more (stays p q) n a b e = b (sym e ∙ same_status (w.sender ∙ q))

    telling_moves : Moves s x y d
    telling_moves = record {
      on =
          λ v.
          absurd
          (⊎_elim (asks_no_more w.settling copying (omega arith) (omega arith)) (asks_no_more w.settling waiting (omega arith) (omega arith)) v);
    }

  pub delivery_moves : Moves s x y (delivery s t x y)
  delivery_moves = go (delivery_did s t S x y c)
    where
      go : Did s t x y d → Moves s x y d
      go (did_ask w) = asking_moves w w.how
      go (did_attach w) = telling_moves w.tells
      go (did_notify w) = telling_moves w.tells
