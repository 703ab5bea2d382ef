-- How many deliveries of a node are taken since the latest beginning of its number, in any list of calls. Assumes nothing.
use Prim.Native.Nat.{ℕ, ◌+◌, ◌≤◌}
use mathlib.Core.Path.{◌≡◌, refl, ap, ◌∙◌}
use mathlib.Core.Bool.{Bool, true, false, cond, ◌||◌}
use mathlib.Core.List.{List}
use native.Mathlib.Omega.{arith}
use lib.Dec.{eqb}
use Rattle.model.specs.Memory.{Memory, Node, digits, node_of, status_of, requests_of, notices_of, in_system, copying, waiting, notifying}
use Rattle.model.specs.Join.{Delivery, notifying_node, kind_attached, kind_notified, delivery}
use Rattle.model.specs.Run.{Call, play, history, goes_on, keeps_asking}
use Rattle.model.proofs.Memory.{same_status, same_requests}
use Rattle.model.proofs.Status.{IsNode}
use Rattle.model.proofs.Sound.{Sound}
use Rattle.model.proofs.Sender.{CanDeliver}
use Rattle.model.proofs.Settling.{Settling, settles, stays}
use Rattle.model.proofs.DeliveryDid.{Asking, copies_on, starts_waiting, waits_on, AsksOn, Tells, Did, did_ask, did_attach, did_notify, delivery_did}
use Rattle.model.proofs.RequestBound.{requests_most, notices_most, none_answered}
use Rattle.model.proofs.DeliveryCounts.{delivery_adds}
use Rattle.promise.specs.OneJoin.{deliveries_of}
use Rattle.promise.proofs.RunCounts.{Count, Kept, few_sent}

-- ---- as a count: one more than the deliveries of a node that began, by its record

abbrev is_asking : ℕ → Bool
is_asking status = eqb status copying || eqb status waiting

-- a node that copies or waits has one request more than deliveries; afterwards the one that attached it and its notices came
abbrev delivered : Node → ℕ
delivered r = cond (is_asking r.status) r.requests (r.requests + r.notices + 1)

abbrev delivery_count : Count
delivery_count = record { of = delivered; first = 1; counts = λ kind. true }

-- by the number of the status
delivered_by : (r : Node) (n : ℕ) → r.status ≡ n → delivered r ≡ cond (is_asking n) r.requests (r.requests + r.notices + 1)
delivered_by r n = ap (λ (v : ℕ). cond (is_asking v) r.requests (r.requests + r.notices + 1))

module _ (s t : List ℕ) (S : Sound s t) (x y : ℕ) (c : CanDeliver s x y) where
  abbrev d : Delivery
  d = delivery s t x y

  asking : (w : AsksOn s t x y d) → Asking s x y w.status w.target d.kind → delivered d.sender ≡ delivered (node_of s x) + 1
  asking w (copies_on e q k i n) =
      omega (arith, delivered_by d.sender copying (same_status w.sender ∙ q), same_requests w.sender, delivered_by (node_of s x) copying e)
  asking w (starts_waiting e q k n) =
      omega (arith, delivered_by d.sender waiting (same_status w.sender ∙ q), same_requests w.sender, delivered_by (node_of s x) copying e)
  asking w (waits_on e q k n) =
      omega (arith, delivered_by d.sender waiting (same_status w.sender ∙ q), same_requests w.sender, delivered_by (node_of s x) waiting e)

  -- it notifies then, or has settled
  telling : {s' seen : List ℕ} {level pending notified notices : ℕ} → Tells s t x y d s' seen level pending notified notices
      → delivered d.sender ≡ d.sender.requests + d.sender.notices + 1
  telling {level = level} {pending = pending} {notified = notified} {notices = notices} w = go w.settling
    where
      go : Settling (notifying_node (node_of s x) level pending notified notices) → delivered d.sender ≡ d.sender.requests + d.sender.notices + 1
      go (settles p q) = delivered_by d.sender in_system (same_status (w.sender ∙ q))
      go (stays p q) = delivered_by d.sender notifying (same_status (w.sender ∙ q))

  -- what its kind adds to the two counts
  requests_by : (kind : ℕ) → d.kind ≡ kind → d.sender.requests ≡ cond (keeps_asking kind) (requests_of s x + 1) (requests_of s x)
  requests_by kind e = (delivery_adds s t S x y c).requests ∙ ap (λ (v : ℕ). cond (keeps_asking v) (requests_of s x + 1) (requests_of s x)) e

  notices_by : (kind : ℕ) → d.kind ≡ kind → d.sender.notices ≡ cond (eqb kind kind_notified) (notices_of s x + 1) (notices_of s x)
  notices_by kind e = (delivery_adds s t S x y c).notices ∙ ap (λ (v : ℕ). cond (eqb v kind_notified) (notices_of s x + 1) (notices_of s x)) e

  one_more : delivered (delivery s t x y).sender ≡ delivered (node_of s x) + 1
  one_more = go (delivery_did s t S x y c)
    where
      go : Did s t x y d → delivered d.sender ≡ delivered (node_of s x) + 1
      go (did_ask w) = asking w w.how
      go (did_attach w) =
          let none = none_answered s t S x c.sender (λ q. omega (arith, q, w.status)) (λ q. omega (arith, q, w.status)) in
          omega (
            arith,
            telling w.tells,
            requests_by kind_attached w.kind,
            notices_by kind_attached w.kind,
            none,
            delivered_by (node_of s x) waiting w.status,
          )
      go (did_notify w) =
          omega (
            arith,
            telling w.tells,
            requests_by kind_notified w.kind,
            notices_by kind_notified w.kind,
            delivered_by (node_of s x) notifying w.status,
          )

deliveries_kept : Kept delivery_count
deliveries_kept = record { new = λ id gateway. refl; sender = one_more }

-- in a sound state it is at most d + 64
delivered_most : (s t : List ℕ) → Sound s t → (x : ℕ) → IsNode s x → delivered (node_of s x) ≤ digits s + 64
delivered_most s t S x n = go (is_asking (status_of s x)) refl
  where
    requests : requests_of s x ≤ digits s + 1
    requests = requests_most s t S x n

    go : (b : Bool) → is_asking (status_of s x) ≡ b → cond b (requests_of s x) (requests_of s x + notices_of s x + 1) ≤ digits s + 64
    go true e = omega (arith, requests)
    go false e = omega (arith, requests, notices_most s t S x n)

-- ---- the deliveries of a history are fewer

pub deliveries_few : (m : Memory) (cs : List Call) → Sound m.state m.tables → goes_on m cs ≡ true → (x : ℕ)
    → deliveries_of x (history m cs) ≤ digits (play m cs).state + 64
deliveries_few = few_sent delivery_count deliveries_kept 64 delivered_most 0 (omega arith)
