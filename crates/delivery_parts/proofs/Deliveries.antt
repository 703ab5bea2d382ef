-- What each delivery leaves, as the book has it. Assumes nothing.
use Prim.Native.Nat.{ℕ, ◌+◌, ◌*◌, ◌≤◌}
use mathlib.Core.Path.{◌≡◌, refl, sym, ap, ap₂, ◌∙◌}
use mathlib.Core.Bool.{Bool, true, false, cond}
use mathlib.Core.List.{List, [], ◌∷◌}
use native.Mathlib.Omega.{arith}
use lib.Dec.{eqb}
use lib.ListN.{length}
use borrow.Author.Tests.{eq-eqb, ne_eqb}
use Rattle.model.specs.Memory.{Node as Record, node_of, status_of, level_of, pending_of, notified_of, notices_of, with_node, in_system, copying, waiting, notifying, is_in_system, add_node, remove_node, table_of, with_table}
use Rattle.model.specs.Learning.{learn, learn_table}
use Rattle.model.specs.Join.{Delivery, joining_node, notifying_node, settle, room_at_suffix, first_at_suffix, gather, delivered, delivery}
use Rattle.model.specs.Join.{deliver_copying, deliver_sent_on, deliver_attached, deliver_waiting, deliver_notifying}
use Rattle.model.specs.Calls.{Outcome, taken, delivery_fields}
use Rattle.model.proofs.Sound.{Sound}
use Rattle.model.proofs.Sender.{CanDeliver, Sending, copies, waits, notifies, sends, Receiver}
use Rattle.model.proofs.DeliveryDid.{level_at, state_at, pending_at, delivery_is, to_receiver}
use Rattle.model.proofs.Memory.{same_level, same_pending, same_notified, same_requests, same_notices, stored_twice, table_back}
use Rattle.model.proofs.RequestBound.{requests_most, notices_most}
use Rattle.model.proofs.Settling.{settled_is}
use Rattle.state.specs.declared.record.Node.{Node}
use Rattle.state.specs.Loaded.{book_node}
use Rattle.answers.specs.declared.delivery.Kind.TheVariants.{Copied, SentOn, Attached, Notified}
use Rattle.state.specs.Lent.{memory}
use Rattle.delivery_parts.specs.Answers.{outcome, took_delivery}
use Rattle.delivery_parts.specs.Delivers.{Delivers, Meets, exchanged, notified_tables}
use Rattle.delivery_parts.proofs.Readers.{network, meets, meets_notifying}
use Rattle.delivery_parts.proofs.Learned.{exchanged_own, exchanged_theirs, notified_theirs}
use Rattle.delivery_parts.proofs.Stores.{gather_same}

-- ---- the records of x

-- the sums of its counts fit
module _ (s t : List ℕ) (x y : ℕ) (q : Node) (d : Delivers s t x y) (o : book_node q ≡ node_of s x) where
  pub requests_few : q.requests ≤ 9
  requests_few = omega (arith, same_requests o, requests_most s t d.sound x d.sender, d.sound.settings.digits_most)

  pub notices_few : q.notices ≤ 62
  notices_few = omega (arith, same_notices o, notices_most s t d.sound x d.sender)

module _ (s t : List ℕ) (x y : ℕ) where
  abbrev asks : Record
  asks = (deliver_copying s x y (table_of t x) (table_of t y)).sender

  module _ (q n : Node) (o : book_node q ≡ node_of s x) where
    -- where E has room, x is to wait at y
    pub asks_receiver : room_at_suffix s (table_of t y) x y ≡ true → book_node n ≡ joining_node (book_node q) waiting y → book_node n ≡ asks
    unfolding deliver_copying
    asks_receiver b f = rw b (f ∙ ap (λ (m : Record). joining_node m waiting y) o)

    module _ (b : room_at_suffix s (table_of t y) x y ≡ false) (v k : ℕ) (e : v ≡ first_at_suffix s (table_of t y) x y) (ek : k ≡ status_of s v) where
      -- where E is full and its first node is in system, x copies from that one next
      pub asks_first : k ≡ 0 → book_node n ≡ joining_node (book_node q) copying v → book_node n ≡ asks
      unfolding deliver_copying
      asks_first z f =
          let w : is_in_system s (first_at_suffix s (table_of t y) x y) ≡ true = eq-eqb _ 0 (ap (status_of s) (sym e) ∙ sym ek ∙ z) in
          rw (b, w) (f ∙ ap₂ (λ (m : Record) (v : ℕ). joining_node m copying v) o e)

      pub waits_first : (k ≡ 0 → ⊥) → book_node n ≡ joining_node (book_node q) waiting v → book_node n ≡ asks
      unfolding deliver_copying
      waits_first ne f =
          let w : is_in_system s (first_at_suffix s (table_of t y) x y) ≡ false = ne_eqb _ 0 (λ q. ne (ek ∙ ap (status_of s) e ∙ q)) in
          rw (b, w) (f ∙ ap₂ (λ (m : Record) (v : ℕ). joining_node m waiting v) o e)

-- ---- what is left

-- a delivery's outcome, from what was stored and answered
left : (s t s₁ t₁ : List ℕ) (x y : ℕ) (d : Delivery) (fields : List ℕ) → s₁ ≡ with_node s x d.sender
    → t₁ ≡ with_table (with_table t y d.receiver_table) x d.sender_table → fields ≡ delivery_fields d
    → ◌≡◌ {A = Outcome} (record { memory = memory s₁ t₁; out = []; answer = 0 ∷ fields }) (took_delivery s t x y d)
unfolding took_delivery taken delivered
left s t s₁ t₁ x y d fields e f g = cc

module _ (s t : List ℕ) (x y : ℕ) (d : Delivers s t x y) where
  fits : 8 * x + 8 ≤ length s
  fits = omega (arith, d.sound.long.state, d.sound.few, d.sender.high)

  -- y's table stays
  kept : (t₁ T : List ℕ) → t₁ ≡ with_table t x T → t₁ ≡ with_table (with_table t y (table_of t y)) x T
  kept t₁ T e = e ∙ ap (λ (t : List ℕ). with_table t x T) (sym (table_back t y))

  pub copied_is : (s₁ t₁ : List ℕ) (r : Node) → book_node r ≡ (deliver_copying s x y (table_of t x) (table_of t y)).sender
      → t₁ ≡ with_table t x (learn_table s x (table_of t y) (table_of t x)) → s₁ ≡ with_node s x (book_node r)
      → outcome s₁ t₁ (record { kind = Copied; settled = false }) ≡ took_delivery s t x y (deliver_copying s x y (table_of t x) (table_of t y))
  unfolding deliver_copying
  copied_is s₁ t₁ r er et es =
      left s t s₁ t₁ x y (deliver_copying s x y (table_of t x) (table_of t y)) _ (es ∙ ap (with_node s x) er) (kept t₁ _ et)
      (ap (λ (b : Bool). 1 ∷ 0 ∷ cond b 1 0 ∷ []) (sym (joins (room_at_suffix s (table_of t y) x y) (is_in_system s v))))
    where
      v : ℕ
      v = first_at_suffix s (table_of t y) x y

      joins : (a b : Bool)
          → eqb (cond a (joining_node (node_of s x) waiting y) (joining_node (node_of s x) (cond b copying waiting) (first_at_suffix s (table_of t y) x y))).status in_system ≡ false
      joins true b = refl
      joins false true = refl
      joins false false = refl

  pub sent_on_is : (s₁ t₁ : List ℕ) (q r : Node) (v : ℕ) → book_node q ≡ node_of s x → v ≡ first_at_suffix s (table_of t y) x y
      → t₁ ≡ with_table t x (learn_table s x (table_of t y) (table_of t x)) → book_node r ≡ joining_node (book_node q) waiting v → s₁ ≡ with_node s x (book_node r)
      → outcome s₁ t₁ (record { kind = SentOn; settled = false }) ≡ took_delivery s t x y (deliver_sent_on s x y (table_of t x) (table_of t y))
  unfolding deliver_sent_on
  sent_on_is s₁ t₁ q r v o ev et er es =
      left s t s₁ t₁ x y (deliver_sent_on s x y (table_of t x) (table_of t y)) _
      (es ∙ ap (with_node s x) (er ∙ ap₂ (λ (m : Record) (v : ℕ). joining_node m waiting v) o ev)) (kept t₁ _ et) refl

  abbrev k₀ : ℕ
  k₀ = level_at s t x y

  abbrev notified₀ : ℕ
  notified₀ = add_node 0 y

  abbrev r₀ : Record
  r₀ = notifying_node (node_of s x) k₀ 0 notified₀ (notices_of s x)

  abbrev s₀ : List ℕ
  s₀ = state_at s t x y

  abbrev Ty₀ : List ℕ
  Ty₀ = learn s₀ y x (table_of t y)

  abbrev Tx₀ : List ℕ
  Tx₀ = learn_table s₀ x (table_of t y) (table_of t x)

  abbrev pending₀ : ℕ
  pending₀ = pending_at s t x y

  meets₀ : Meets s₀ t x y
  meets₀ = meets_notifying s t s₀ x y k₀ notified₀ (notices_of s x) d refl

  gathered : gather s₀ x k₀ notified₀ Ty₀ (gather s₀ x k₀ notified₀ Tx₀ 0) ≡ pending₀
  gathered =
      gather_same s (network s t d.sound) x d.sender r₀ refl k₀ notified₀ Ty₀ _
      ∙ ap (gather s x k₀ notified₀ Ty₀) (gather_same s (network s t d.sound) x d.sender r₀ refl k₀ notified₀ Tx₀ 0)

  -- x's record after, and whether it settled
  module _ (q : Node) (o : book_node q ≡ node_of s x) (k k' pending pending' notified notified' notices notices' : ℕ) (ek : k ≡ k')
      (ep : pending ≡ pending') (en : notified ≡ notified') (ec : notices ≡ notices') where
    sender_is : settle (notifying_node (book_node q) k pending notified notices) ≡ settle (notifying_node (node_of s x) k' pending' notified' notices')
    sender_is = λ i. settle (notifying_node (o i) (ek i) (ep i) (en i) (ec i))

    settled_field : (b : Bool) → b ≡ eqb pending 0 → b ≡ eqb (settle (notifying_node (node_of s x) k' pending' notified' notices')).status in_system
    settled_field b e =
        e ∙ ap (λ (a : ℕ). eqb a 0) ep ∙ sym (settled_is (notifying_node (node_of s x) k' pending' notified' notices') refl)

  pub attached_is : (s₁ s₂ t₁ : List ℕ) (q : Node) (k notified pending : ℕ) (b : Bool) → book_node q ≡ node_of s x → k ≡ k₀
      → s₁ ≡ with_node s x (notifying_node (node_of s x) k 0 (add_node 0 y) (notices_of s x)) → t₁ ≡ exchanged s₁ t x y → notified ≡ notified₀
      → pending ≡ gather s₁ x k notified (table_of t₁ y) (gather s₁ x k notified (table_of t₁ x) 0)
      → s₂ ≡ with_node s₁ x (settle (notifying_node (book_node q) k pending notified q.notices)) → b ≡ eqb pending 0
      → outcome s₂ t₁ (record { kind = Attached k; settled = b }) ≡ took_delivery s t x y (deliver_attached s x y (table_of t x) (table_of t y))
  unfolding deliver_attached
  attached_is s₁ s₂ t₁ q k notified pending b o ek e₁ et en ep e₂ eb =
      let w : s₁ ≡ s₀ = e₁ ∙ ap (λ (k : ℕ). with_node s x (notifying_node (node_of s x) k 0 notified₀ (notices_of s x))) ek in
      let v : t₁ ≡ exchanged s₀ t x y = et ∙ ap (λ (s : List ℕ). exchanged s t x y) w in
      let a : pending ≡ pending₀ = cc (gathered, exchanged_own s₀ t x y meets₀, exchanged_theirs s₀ t x y meets₀) in
      left s t s₂ t₁ x y (deliver_attached s x y (table_of t x) (table_of t y)) (3 ∷ k ∷ cond b 1 0 ∷ [])
      (e₂ ∙ ap₂ (λ (s : List ℕ) (r : Record). with_node s x r) w (sender_is q o _ _ _ _ _ _ _ _ ek a en (same_notices o)) ∙ stored_twice s x _ _ fits) v
      (ap₂ (λ (k : ℕ) (b : Bool). 3 ∷ k ∷ cond b 1 0 ∷ []) ek (settled_field q o _ _ _ _ _ _ _ _ ek a en (same_notices o) b eb))

  abbrev Ty₁ : List ℕ
  Ty₁ = learn s y x (table_of t y)

  pub notified_is : (s₁ t₁ : List ℕ) (q : Node) (notified rest pending notices : ℕ) (b : Bool) → book_node q ≡ node_of s x → notified ≡ add_node q.notified y
      → rest ≡ remove_node q.pending y → t₁ ≡ notified_tables s t x y → pending ≡ gather s x q.level notified (table_of t₁ y) rest → notices ≡ q.notices + 1
      → s₁ ≡ with_node s x (settle (notifying_node (book_node q) q.level pending notified notices)) → b ≡ eqb pending 0
      → outcome s₁ t₁ (record { kind = Notified; settled = b }) ≡ took_delivery s t x y (deliver_notifying s x y (table_of t x) (table_of t y))
  unfolding deliver_notifying
  notified_is s₁ t₁ q notified rest pending notices b o en er et ep ec es eb =
      let l : q.level ≡ level_of s x = same_level o in
      let n : notified ≡ add_node (notified_of s x) y = en ∙ ap (λ (a : ℕ). add_node a y) (same_notified o) in
      let r : rest ≡ remove_node (pending_of s x) y = er ∙ ap (λ (a : ℕ). remove_node a y) (same_pending o) in
      let c : notices ≡ notices_of s x + 1 = ec ∙ ap (λ (n : ℕ). n + 1) (same_notices o) in
      let a : pending ≡ gather s x (level_of s x) (add_node (notified_of s x) y) Ty₁ (remove_node (pending_of s x) y) = cc (notified_theirs s t x y (meets s t x y d)) in
      left s t s₁ t₁ x y (deliver_notifying s x y (table_of t x) (table_of t y)) (4 ∷ 0 ∷ cond b 1 0 ∷ [])
      (es ∙ ap (with_node s x) (sender_is q o _ _ _ _ _ _ _ _ l a n c)) et
      (ap (λ (b : Bool). 4 ∷ 0 ∷ cond b 1 0 ∷ []) (settled_field q o _ _ _ _ _ _ _ _ l a n c b eb))

-- ---- which delivery it is

module _ (s t : List ℕ) (x y : ℕ) (o : Outcome) where
  pub waiting_attaches : room_at_suffix s (table_of t y) x y ≡ true
      → o ≡ took_delivery s t x y (deliver_attached s x y (table_of t x) (table_of t y))
      → o ≡ took_delivery s t x y (deliver_waiting s x y (table_of t x) (table_of t y))
  unfolding deliver_waiting
  waiting_attaches b f = rw b f

  pub waiting_sends : room_at_suffix s (table_of t y) x y ≡ false
      → o ≡ took_delivery s t x y (deliver_sent_on s x y (table_of t x) (table_of t y))
      → o ≡ took_delivery s t x y (deliver_waiting s x y (table_of t x) (table_of t y))
  unfolding deliver_waiting
  waiting_sends b f = rw b f

  pub delivers_copying : (n : ℕ) → n ≡ status_of s x → n ≡ 1 → o ≡ took_delivery s t x y (deliver_copying s x y (table_of t x) (table_of t y))
      → o ≡ took_delivery s t x y (delivery s t x y)
  delivers_copying n e q f = f ∙ ap (took_delivery s t x y) (sym (delivery_is s t x y copying (sym e ∙ q)))

  pub delivers_waiting : (n : ℕ) → n ≡ status_of s x → n ≡ 2 → o ≡ took_delivery s t x y (deliver_waiting s x y (table_of t x) (table_of t y))
      → o ≡ took_delivery s t x y (delivery s t x y)
  delivers_waiting n e q f = f ∙ ap (took_delivery s t x y) (sym (delivery_is s t x y waiting (sym e ∙ q)))

  pub delivers_notifying : (n : ℕ) → n ≡ status_of s x → n ≡ 3 → o ≡ took_delivery s t x y (deliver_notifying s x y (table_of t x) (table_of t y))
      → o ≡ took_delivery s t x y (delivery s t x y)
  delivers_notifying n e q f = f ∙ ap (took_delivery s t x y) (sym (delivery_is s t x y notifying (sym e ∙ q)))

-- ---- what the refusals of a delivery leave

pub delivers : (s t : List ℕ) (x y : ℕ) → Sound s t → CanDeliver s x y → Delivers s t x y
delivers s t x y S c =
    let r : Receiver s x y = to_receiver s t S x y c in
    record { sound = S; sender = c.sender; receiver = c.receiver; attached = r.attached; other = r.other }

-- a sender that can deliver copies, waits or notifies
pub other_asks_nothing : (s t : List ℕ) (x y n : ℕ) → Sound s t → CanDeliver s x y → n ≡ status_of s x → (n ≡ 1 → ⊥) → (n ≡ 2 → ⊥)
    → (n ≡ 3 → ⊥) → ⊥
other_asks_nothing s t x y n S c e a b d = go (sends s t S x y c)
  where
    go : Sending s x y → ⊥
    go (copies q f h) = a (e ∙ q)
    go (waits q f h i) = b (e ∙ q)
    go (notifies q f h) = d (e ∙ q)

pub in_system_asks_nothing : (s t : List ℕ) (x y n : ℕ) → Sound s t → CanDeliver s x y → n ≡ status_of s x → n ≡ 0 → ⊥
in_system_asks_nothing s t x y n S c e z =
    other_asks_nothing s t x y n S c e (λ q. omega arith) (λ q. omega arith) (λ q. omega arith)
