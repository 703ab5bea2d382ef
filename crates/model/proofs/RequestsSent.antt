-- A taken delivery answers copied or sent on exactly when it leaves its sender copying or waiting, so that what is counted by the answers
-- is what document 01 counts by the sender's status. Assumes nothing.
use Prim.Native.Nat.{ℕ}
use mathlib.Core.Path.{◌≡◌, refl, sym, ap, subst, ◌∙◌}
use mathlib.Core.Bool.{Bool, true, ◌||◌}
use mathlib.Core.List.{List, []}
use lib.Dec.{eqb}
use lib.ListN.{get_or}
use Rattle.model.specs.Memory.{Memory, node_of, in_system, copying, waiting, notifying, is_joining, with_node}
use Rattle.model.specs.Join.{Delivery, notifying_node, kind_copied, kind_sent_on, kind_attached, kind_notified, delivery, delivered}
use Rattle.model.specs.Refusals.{deliver_refusal}
use Rattle.model.specs.Calls.{Outcome, taken, delivery_fields, deliver_call}
use Rattle.model.specs.Run.{is_taken, keeps_asking}
use Rattle.model.proofs.Memory.{same_status, node_stored}
use Rattle.model.proofs.Settling.{Settling, settles, stays}
use Rattle.model.proofs.Sound.{Sound, node_fits}
use Rattle.model.proofs.Sender.{CanDeliver}
use Rattle.model.proofs.DeliveryDid.{Asking, copies_on, starts_waiting, waits_on, AsksOn, Tells, Did, did_ask, did_attach, did_notify, delivery_did}
use Rattle.model.proofs.Taken.{deliver_taken}
use Rattle.model.proofs.Calls.{taken_is, taken_zero}

-- copying or waiting, by the number of the status
abbrev joins : ℕ → Bool
joins status = eqb status copying || eqb status waiting

module _ (s t : List ℕ) (S : Sound s t) (x y : ℕ) (c : CanDeliver s x y) where
  abbrev d : Delivery
  d = delivery s t x y

  at : (kind status : ℕ) → d.kind ≡ kind → d.sender.status ≡ status → keeps_asking kind ≡ joins status
      → keeps_asking d.kind ≡ joins d.sender.status
  at kind status k q h = ap keeps_asking k ∙ h ∙ sym (ap joins q)

  asking : (w : AsksOn s t x y d) → Asking s x y w.status w.target d.kind → keeps_asking d.kind ≡ joins d.sender.status
  asking w (copies_on e q k i n) = at kind_copied copying k (same_status w.sender ∙ q) refl
  asking w (starts_waiting e q k n) = at kind_copied waiting k (same_status w.sender ∙ q) refl
  asking w (waits_on e q k n) = at kind_sent_on waiting k (same_status w.sender ∙ q) refl

  telling : {s' seen : List ℕ} {level pending notified notices : ℕ} (kind : ℕ) → d.kind ≡ kind → keeps_asking kind ≡ joins in_system
      → (w : Tells s t x y d s' seen level pending notified notices) → Settling (notifying_node (node_of s x) level pending notified notices)
      → keeps_asking d.kind ≡ joins d.sender.status
  telling kind k h w (settles p q) = at kind in_system k (same_status (w.sender ∙ q)) h
  telling kind k h w (stays p q) = at kind notifying k (same_status (w.sender ∙ q)) h

  kind_by_status : Did s t x y d → keeps_asking d.kind ≡ joins d.sender.status
  kind_by_status (did_ask w) = asking w w.how
  kind_by_status (did_attach w) = telling kind_attached w.kind refl w.tells w.tells.settling
  kind_by_status (did_notify w) = telling kind_notified w.kind refl w.tells w.tells.settling

  -- the sender's record after it is in its place
  kept : keeps_asking d.kind ≡ is_joining (with_node s x d.sender) x
  kept =
      kind_by_status (delivery_did s t S x y c)
      ∙ sym (ap joins (same_status (node_stored s x d.sender (node_fits s t S x c.sender))))

pub asks_on_exactly : (m : Memory) (x y : ℕ) → is_taken (deliver_call m x y).answer ≡ true
    → keeps_asking (get_or (deliver_call m x y).answer 1 0) ≡ is_joining (deliver_call m x y).memory.state x
unfolding deliver_call taken delivered
asks_on_exactly m x y e =
    let z = taken_zero m (deliver_refusal m x y) [] _ _ e in
    let k = deliver_taken m x y z in
    let r : Delivery = delivery m.state m.tables x y in
    subst (λ (o : Outcome). keeps_asking (get_or o.answer 1 0) ≡ is_joining o.memory.state x)
    (sym (taken_is (deliver_refusal m x y) _ (taken (delivered m.state m.tables x y r) [] (delivery_fields r)) z))
    (kept m.state m.tables k.0 x y k.1)
