-- What a taken delivery adds to the counts of its sender, by the kind that it answers. Assumes nothing.
use Prim.Native.Nat.{ℕ, ◌+◌}
use mathlib.Core.Path.{◌≡◌, sym, ap, ◌∙◌}
use mathlib.Core.Bool.{cond}
use mathlib.Core.List.{List}
use lib.Dec.{eqb}
use Rattle.model.specs.Memory.{Node, node_of, requests_of, notices_of}
use Rattle.model.specs.Join.{Delivery, notifying_node, kind_copied, kind_sent_on, kind_attached, kind_notified, delivery}
use Rattle.model.specs.Run.{keeps_asking}
use Rattle.model.proofs.Memory.{same_requests, same_notices}
use Rattle.model.proofs.Settling.{Settling, settles, stays}
use Rattle.model.proofs.Sound.{Sound}
use Rattle.model.proofs.Sender.{CanDeliver}
use Rattle.model.proofs.DeliveryDid.{Asking, copies_on, starts_waiting, waits_on, AsksOn, Tells, Did, did_ask, did_attach, did_notify, delivery_did}

pub record Adds (s : List ℕ) (x : ℕ) (d : Delivery) : Type 0 where
  pub requests : d.sender.requests ≡ cond (keeps_asking d.kind) (requests_of s x + 1) (requests_of s x)
  pub notices : d.sender.notices ≡ cond (eqb d.kind kind_notified) (notices_of s x + 1) (notices_of s x)

module _ (s t : List ℕ) (S : Sound s t) (x y : ℕ) (c : CanDeliver s x y) where
  abbrev d : Delivery
  d = delivery s t x y

  -- by the kind
  adds : (kind : ℕ) → d.kind ≡ kind → d.sender.requests ≡ cond (keeps_asking kind) (requests_of s x + 1) (requests_of s x)
      → d.sender.notices ≡ cond (eqb kind kind_notified) (notices_of s x + 1) (notices_of s x) → Adds s x d
  adds kind e r n = record {
    requests = r ∙ sym (ap (λ (v : ℕ). cond (keeps_asking v) (requests_of s x + 1) (requests_of s x)) e);
    notices = n ∙ sym (ap (λ (v : ℕ). cond (eqb v kind_notified) (notices_of s x + 1) (notices_of s x)) e);
  }

  asking : (w : AsksOn s t x y d) → Asking s x y w.status w.target d.kind → Adds s x d
  asking w (copies_on e q k i n) = adds kind_copied k (same_requests w.sender) (same_notices w.sender)
  asking w (starts_waiting e q k n) = adds kind_copied k (same_requests w.sender) (same_notices w.sender)
  asking w (waits_on e q k n) = adds kind_sent_on k (same_requests w.sender) (same_notices w.sender)

  -- settling keeps both
  module _ {s' seen : List ℕ} {level pending notified notices : ℕ} (w : Tells s t x y d s' seen level pending notified notices) where
    abbrev full : Node
    full = notifying_node (node_of s x) level pending notified notices

    kept_requests : Settling full → d.sender.requests ≡ requests_of s x
    kept_requests (settles p q) = same_requests (w.sender ∙ q)
    kept_requests (stays p q) = same_requests (w.sender ∙ q)

    kept_notices : Settling full → d.sender.notices ≡ notices
    kept_notices (settles p q) = same_notices (w.sender ∙ q)
    kept_notices (stays p q) = same_notices (w.sender ∙ q)

  pub delivery_adds : Adds s x (delivery s t x y)
  delivery_adds = go (delivery_did s t S x y c)
    where
      go : Did s t x y d → Adds s x d
      go (did_ask w) = asking w w.how
      go (did_attach w) =
          adds kind_attached w.kind (kept_requests w.tells w.tells.settling) (kept_notices w.tells w.tells.settling)
      go (did_notify w) =
          adds kind_notified w.kind (kept_requests w.tells w.tells.settling) (kept_notices w.tells w.tells.settling)
