-- Every taken delivery leaves a sound state. Assumes nothing.
use Prim.Native.Nat.{ℕ}
use mathlib.Core.Path.{◌≡◌, refl, sym, subst, subst₂}
use mathlib.Core.List.{List}
use native.Mathlib.Omega.{arith}
use Rattle.model.specs.Memory.{node_of, with_node, waiting, table_of, with_table}
use Rattle.model.specs.Learning.{learn_table}
use Rattle.model.specs.Join.{Delivery, joining_node, delivery, delivered}
use Rattle.model.proofs.Status.{IsNode, node_among, RecordOk, ok_copying, ok_waiting, joins}
use Rattle.model.proofs.NodeCounts.{CountsOk}
use Rattle.model.proofs.Sound.{Sound}
use Rattle.model.proofs.Later.{Later, later_refl}
use Rattle.model.proofs.ReplacingKeepsSound.{replaced_ok}
use Rattle.model.proofs.SoundNodes.{own_later, own, learned_table}
use Rattle.model.proofs.Sender.{CanDeliver}
use Rattle.model.proofs.DeliveryDid.{Asking, copies_on, starts_waiting, waits_on, AsksOn, Did, did_ask, did_attach, did_notify, to_receiver, delivery_did}
use Rattle.model.proofs.TablesOnlyGrow.{delivered_id, delivered_count, delivered_later}
use Rattle.model.proofs.RequestBound.{asking_counts}
use Rattle.model.proofs.NotifyingKeepsSound.{attaches_ok, notifies_ok}

module _ (s t : List ℕ) (S : Sound s t) (x y : ℕ) (c : CanDeliver s x y) where
  abbrev d : Delivery
  d = delivery s t x y

  abbrev s₁ : List ℕ
  s₁ = with_node s x d.sender

  l : Later s s₁
  unfolding delivered
  l = delivered_later s t S x y c

  on : (z : ℕ) → IsNode s z → IsNode s₁ z
  unfolding delivered
  on = node_among s s₁ (omega (arith, delivered_count s t S x y c))

  -- x goes on asking
  module _ (w : AsksOn s t x y d) where
    waits : w.status ≡ waiting → RecordOk s x (joining_node (node_of s x) w.status w.target)
    waits q = ok_waiting q record { is_node = w.is_node; attached = w.attached; rest = joins (node_of s x) w.status w.target }

    rules : Asking s x y w.status w.target d.kind → RecordOk s x (joining_node (node_of s x) w.status w.target)
    rules (copies_on e q k i n) =
        ok_copying q record { is_node = w.is_node; in_system = i; rest = joins (node_of s x) w.status w.target }
    rules (starts_waiting e q k n) = waits q
    rules (waits_on e q k n) = waits q

    asks_ok : Sound (delivered s t x y d).state (delivered s t x y d).tables
    unfolding delivered
    asks_ok =
        subst₂ (λ (Tx Ty : List ℕ). Sound s₁ (with_table (with_table t y Ty) x Tx)) (sym w.own) (sym w.theirs)
        (replaced_ok s t x y d.sender (learn_table s x (table_of t y) (table_of t x)) (table_of t y) S c.sender c.receiver
        (delivered_id s t S x y c) l
        (own_later s s₁ l x (learn_table s x (table_of t y) (table_of t x)) c.sender (on x c.sender)
        (learned_table s t S s (later_refl s) refl x c.sender y (to_receiver s t S x y c).attached (table_of t y) (own s t S y c.receiver)))
        (own_later s s₁ l y (table_of t y) c.receiver (on y c.receiver) (own s t S y c.receiver))
        (subst (RecordOk s x) (sym w.sender) (rules w.how))
        (subst (CountsOk s x) (sym w.sender) (asking_counts s t S x y c w)))

  pub delivered_ok : Sound (delivered s t x y (delivery s t x y)).state (delivered s t x y (delivery s t x y)).tables
  delivered_ok = go (delivery_did s t S x y c)
    where
      go : Did s t x y d → Sound (delivered s t x y d).state (delivered s t x y d).tables
      go (did_ask w) = asks_ok w
      go (did_attach w) = attaches_ok s t S x y c w
      go (did_notify w) = notifies_ok s t S x y c w
