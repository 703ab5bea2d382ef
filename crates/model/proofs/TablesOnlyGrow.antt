-- Every taken call leads onward: the attached nodes stay, with their ids, and their tables only gain nodes. A number that is not attached may be withdrawn and
-- given again, so nothing is said of it here. Assumes nothing.
use Prim.Native.Nat.{ℕ, ◌+◌, ◌*◌, ◌≤◌}
use mathlib.Core.Path.{◌≡◌, refl, ◌∙◌}
use mathlib.Core.Logic.{◌≢◌}
use mathlib.Core.Bool.{true, false}
use mathlib.Core.List.{List}
use native.Mathlib.Omega.{arith}
use lib.ListN.{length}
use Rattle.model.specs.Memory.{digits, depth, node_count, Node, node_of, id_of, is_attached, is_in_system, with_node, table_of}
use Rattle.model.specs.Join.{Delivery, notifying_node, kind_attached, begun, delivery, delivered}
use Rattle.model.proofs.Bools.{back_false, not_both}
use Rattle.model.proofs.Memory.{same_id, node_stored, table_length}
use Rattle.model.proofs.Tables.{Grows, grows_refl, grows_trans}
use Rattle.model.proofs.Learning.{learn_grows, learn_table_grows}
use Rattle.model.proofs.Status.{IsNode, attached_in_system, waiting_away, notifying_out}
use Rattle.model.proofs.Settling.{settle_id, settle_attached}
use Rattle.model.proofs.Sound.{Sound, node_fits, table_fits}
use Rattle.model.proofs.Later.{Later}
use Rattle.model.proofs.ReplacingKeepsSound.{Agree, agree_node, agree_count, agree_later, replaced_first, replaced_second, replaced_table}
use Rattle.model.proofs.BeginningKeepsSound.{CanBegin, begun_later, begun_table}
use Rattle.model.proofs.Sender.{CanDeliver}
use Rattle.model.proofs.DeliveryDid.{Asking, copies_on, starts_waiting, waits_on, Tells, node_at, state_at, Did, did_ask, did_attach, did_notify, delivery_did}

-- x is an attached node
pub record Attached (s : List ℕ) (x : ℕ) : Type 0 where
  pub node : IsNode s x
  pub status : is_attached s x ≡ true

-- the memory after is that of the same network, one call on or many
pub record Onward (s t s' t' : List ℕ) : Type 0 where
  pub digits : digits s' ≡ digits s
  pub depth : depth s' ≡ depth s
  pub attached : (x : ℕ) → Attached s x → Attached s' x
  pub in_system : (x : ℕ) → IsNode s x → is_in_system s x ≡ true → is_in_system s' x ≡ true
  pub ids : (x : ℕ) → Attached s x → id_of s' x ≡ id_of s x
  pub grows : (x : ℕ) → Attached s x → Grows (table_of t x) (table_of t' x)

pub onward_refl : (s t : List ℕ) → Onward s t s t
onward_refl s t = record {
  digits = refl;
  depth = refl;
  attached = λ x a. a;
  in_system = λ x n e. e;
  ids = λ x a. refl;
  grows = λ x a. grows_refl (table_of t x);
}

-- a node in system is attached
pub settled_attached : (s : List ℕ) (x : ℕ) → IsNode s x → is_in_system s x ≡ true → Attached s x
settled_attached s x n e = record { node = n; status = attached_in_system s x e }

pub onward_trans : {s t s' t' s'' t'' : List ℕ} → Onward s t s' t' → Onward s' t' s'' t'' → Onward s t s'' t''
onward_trans {s} f g = record {
  digits = g.digits ∙ f.digits;
  depth = g.depth ∙ f.depth;
  attached = λ x a. g.attached x (f.attached x a);
  in_system = λ x n e. g.in_system x (f.attached x (settled_attached s x n e)).node (f.in_system x n e);
  ids = λ x a. g.ids x (f.attached x a) ∙ f.ids x a;
  grows = λ x a. grows_trans (f.grows x a) (g.grows x (f.attached x a));
}

-- one call on
pub later_onward : {s t s' t' : List ℕ} → Later s s' → ((x : ℕ) → Attached s x → Grows (table_of t x) (table_of t' x)) → Onward s t s' t'
later_onward l g = record {
  digits = l.digits;
  depth = l.depth;
  attached = λ x a. record { node = l.stays x a.node a.status; status = l.attached x a.node a.status };
  in_system = l.in_system;
  ids = λ x a. l.ids x a.node (l.stays x a.node a.status);
  grows = g;
}

-- ---- a beginning

pub begun_onward : (s t : List ℕ) (id gateway : ℕ) → Sound s t → CanBegin s id gateway
    → Onward s t (begun s t id gateway).state (begun s t id gateway).tables
begun_onward s t id gateway S c =
    later_onward (begun_later s t id gateway S c) (λ z a. rw (begun_table s t id gateway S c z a.node) (grows_refl (table_of t z)))

-- ---- a delivery

module _ (s t : List ℕ) (S : Sound s t) (x y : ℕ) (c : CanDeliver s x y) where
  abbrev nx : IsNode s x
  nx = c.sender

  abbrev ny : IsNode s y
  ny = c.receiver

  abbrev d : Delivery
  d = delivery s t x y

  -- what it does to the sender and to the two tables
  record Does : Type 0 where
    id : d.sender.id ≡ id_of s x
    out : is_in_system s x ≡ false
    attached : (s' : List ℕ) → node_of s' x ≡ d.sender → is_attached s x ≡ true → is_attached s' x ≡ true
    own : Grows (table_of t x) d.sender_table
    their : Grows (table_of t y) d.receiver_table

  tells : (s' seen : List ℕ) (k pending notified notices : ℕ) → is_in_system s x ≡ false → Tells s t x y d s' seen k pending notified notices → Does
  tells s' seen k pending notified notices out w =
      let full : Node = notifying_node (node_of s x) k pending notified notices in
      record {
        id = same_id w.sender ∙ settle_id full refl;
        out = out;
        attached = λ s₁ e q. settle_attached full refl s₁ x (e ∙ w.sender);
        own = rw w.own (learn_table_grows s' x seen (table_of t x));
        their = rw w.theirs (learn_grows s' y x (table_of t y));
      }

  does : Does
  does = go (delivery_did s t S x y c)
    where
      away_out : is_attached s x ≡ false → is_in_system s x ≡ false
      away_out = back_false (is_in_system s x) (is_attached s x) (attached_in_system s x)

      go : Did s t x y d → Does
      go (did_ask w) =
          record {
            id = same_id w.sender;
            out = away_out w.away;
            attached = λ s' e q. absurd (not_both (is_attached s x) q w.away);
            own = rw w.own (learn_table_grows s x (table_of t y) (table_of t x));
            their = rw w.theirs (grows_refl (table_of t y));
          }
      go (did_attach w) = tells _ _ _ _ _ _ (away_out (waiting_away s x w.status)) w.tells
      go (did_notify w) = tells _ _ _ _ _ _ (notifying_out s x w.status) w.tells

  fits : 8 * x + 8 ≤ length s
  fits = node_fits s t S x nx

  pub tables_long : (length (delivery s t x y).sender_table ≡ 512) × (length (delivery s t x y).receiver_table ≡ 512)
  tables_long = (
    does.own.long ∙ table_length t x (table_fits s t S x nx),
    does.their.long ∙ table_length t y (table_fits s t S y ny),
  )

  -- the state in which x attaches
  pub attach_record : node_of (state_at s t x y) x ≡ node_at s t x y
  attach_record = node_stored s x (node_at s t x y) fits

  pub attach_agree : Agree x s (state_at s t x y)
  attach_agree = agree_node s x fits (node_at s t x y) refl

  -- the sender keeps its id
  pub delivered_id : (delivery s t x y).sender.id ≡ id_of s x
  delivered_id = does.id

  -- and was not in system
  pub sender_out : is_in_system s x ≡ false
  sender_out = does.out

  pub delivered_count : node_count (delivered s t x y (delivery s t x y)).state ≡ node_count s
  unfolding delivered
  delivered_count = agree_count x s (with_node s x d.sender) (agree_node s x fits d.sender does.id) nx.low

  pub delivered_later : Later s (delivered s t x y (delivery s t x y)).state
  unfolding delivered
  delivered_later =
      agree_later x s (with_node s x d.sender) (agree_node s x fits d.sender does.id) nx.low
      (does.attached (with_node s x d.sender) (node_stored s x d.sender fits))
      (λ q. absurd (not_both (is_in_system s x) q does.out))

  -- the records and the two tables then
  pub delivered_record : node_of (delivered s t x y (delivery s t x y)).state x ≡ (delivery s t x y).sender
  unfolding delivered
  delivered_record = node_stored s x d.sender fits

  pub delivered_agree : Agree x s (delivered s t x y (delivery s t x y)).state
  unfolding delivered
  delivered_agree = agree_node s x fits d.sender does.id

  -- one that answers that it attached its sender did
  pub kind_attaches : (delivery s t x y).kind ≡ kind_attached → is_attached (delivered s t x y (delivery s t x y)).state x ≡ true
  kind_attaches e = go (delivery_did s t S x y c)
    where
      asking : {status target kind : ℕ} → Asking s x y status target kind → kind ≢ kind_attached
      asking (copies_on f q k i n) g = omega (arith, k, g)
      asking (starts_waiting f q k n) g = omega (arith, k, g)
      asking (waits_on f q k n) g = omega (arith, k, g)

      go : Did s t x y d → is_attached (delivered s t x y d).state x ≡ true
      go (did_ask w) = absurd (asking w.how e)
      go (did_attach w) = settle_attached _ refl (delivered s t x y d).state x (delivered_record ∙ w.tells.sender)
      go (did_notify w) = absurd (omega (arith, w.kind, e))

  pub delivered_sender : table_of (delivered s t x y (delivery s t x y)).tables x ≡ (delivery s t x y).sender_table
  unfolding delivered
  delivered_sender = replaced_first s t S x y nx ny d.sender_table d.receiver_table tables_long.0 tables_long.1

  pub delivered_receiver : y ≢ x → table_of (delivered s t x y (delivery s t x y)).tables y ≡ (delivery s t x y).receiver_table
  unfolding delivered
  delivered_receiver = replaced_second s t S x y nx ny d.sender_table d.receiver_table tables_long.0 tables_long.1

  -- what holds of the two, and of each table as it was, holds of each table then
  pub delivered_each : (P : ℕ → List ℕ → Type 0) → P x (delivery s t x y).sender_table → P y (delivery s t x y).receiver_table
      → ((z : ℕ) → IsNode s z → P z (table_of t z)) → (z : ℕ) → IsNode s z → P z (table_of (delivered s t x y (delivery s t x y)).tables z)
  unfolding delivered
  delivered_each = replaced_table s t S x y nx ny d.sender_table d.receiver_table tables_long.0 tables_long.1

  pub delivered_onward : Onward s t (delivered s t x y (delivery s t x y)).state (delivered s t x y (delivery s t x y)).tables
  delivered_onward =
      later_onward delivered_later
      (λ z a. delivered_each (λ z T. Grows (table_of t z) T) does.own does.their (λ z n. grows_refl (table_of t z)) z a.node)
