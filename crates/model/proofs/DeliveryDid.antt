-- What a taken delivery did, in one of three cases: its sender goes on asking, attaches, or notifies. The other laws of deliveries are read
-- off here. Assumes nothing.
use Prim.Native.Nat.{ℕ, suc, ◌+◌, ◌≤◌, ◌<◌}
use mathlib.Core.Path.{◌≡◌, refl, sym, ap, ap₂, subst, ◌∙◌}
use mathlib.Core.Logic.{◌≢◌, ◌⊎◌, inl, inr, ⊎_elim}
use mathlib.Core.Bool.{Bool, true, false, cond}
use mathlib.Core.List.{List}
use native.Mathlib.Nat.{le_of_suc-le-suc, eq-or-lt_of_le}
use native.Mathlib.Decide.{dec_lt}
use native.Mathlib.Omega.{arith}
use lib.Dec.{eqb, ltb}
use borrow.Author.Tests.{ltb-false, lt-ltb, le-ltb}
use Rattle.model.specs.Ids.{digit_of, common_suffix}
use Rattle.model.specs.Memory.{base, digits, depth, Node, node_of, id_of, status_of, level_of, target_of, pending_of, notified_of, notices_of, with_node, copying, waiting, notifying}
use Rattle.model.specs.Memory.{is_in_system, is_attached, has_node, add_node, remove_node, table_of}
use Rattle.model.specs.Tables.{qualified, slot_place, entry_size}
use Rattle.model.specs.Nodes.{suffix_of}
use Rattle.model.specs.Learning.{learn, learn_table}
use Rattle.model.specs.Join.{Delivery, joining_node, notifying_node, settle, kind_copied, kind_sent_on, kind_attached, kind_notified}
use Rattle.model.specs.Join.{has_room, room_at_suffix, first_at_suffix, below_or_room, room_from, attach_level, gather}
use Rattle.model.specs.Join.{deliver_copying, deliver_sent_on, deliver_attached, deliver_waiting, deliver_notifying, delivery}
use Rattle.model.proofs.Bools.{true_or_false, or_intro_left, or_intro_right, or_right}
use Rattle.model.proofs.Loops.{all_at, all_of, first_holds, first_min}
use Rattle.model.proofs.Ids.{suffix_sym, next_hop_lem, valid_digit}
use Rattle.model.proofs.Tables.{size_filled}
use Rattle.model.proofs.Status.{IsNode, NotifyingOk, attached_other, copying_away, waiting_away}
use Rattle.model.proofs.Settling.{Settling, settling}
use Rattle.model.proofs.Sound.{SlotOk, Sound}
use Rattle.model.proofs.SoundNodes.{own, suffix_below, stands_node}
use Rattle.model.proofs.Sender.{Sending, copies, waits, notifies, CanDeliver, sends, Receiver, receiver}

-- ---- asking on

-- x's status before and after, the kind answered, and how near the target is
pub data Asking (s : List ℕ) (x y status target kind : ℕ) : Type 0 where
  copies_on : status_of s x ≡ copying → status ≡ copying → kind ≡ kind_copied → is_in_system s target ≡ true
      → suffix_of s x y < suffix_of s x target → Asking s x y status target kind
  starts_waiting : status_of s x ≡ copying → status ≡ waiting → kind ≡ kind_copied
      → (target ≡ y) ⊎ (suffix_of s x y < suffix_of s x target) → Asking s x y status target kind
  waits_on : status_of s x ≡ waiting → status ≡ waiting → kind ≡ kind_sent_on → suffix_of s x y < suffix_of s x target
      → Asking s x y status target kind

-- a node with the status that it has then is not attached
pub asking_away : {s : List ℕ} {x y status target kind : ℕ} → Asking s x y status target kind → (s₁ : List ℕ) → status_of s₁ x ≡ status → is_attached s₁ x ≡ false
asking_away {x = x} (copies_on e q k i n) s₁ f = copying_away s₁ x (f ∙ q)
asking_away {x = x} (starts_waiting e q k n) s₁ f = waiting_away s₁ x (f ∙ q)
asking_away {x = x} (waits_on e q k n) s₁ f = waiting_away s₁ x (f ∙ q)

-- x learns y's table and stays copying or waiting; the target is another, attached node
pub record AsksOn (s t : List ℕ) (x y : ℕ) (d : Delivery) : Type 0 where
  pub away : is_attached s x ≡ false
  pub requested : target_of s x ≡ y
  pub status : ℕ
  pub target : ℕ
  pub sender : d.sender ≡ joining_node (node_of s x) status target
  pub own : d.sender_table ≡ learn_table s x (table_of t y) (table_of t x)
  pub theirs : d.receiver_table ≡ table_of t y
  pub level : d.level ≡ 0
  pub is_node : IsNode s target
  pub attached : is_attached s target ≡ true
  pub other : target ≢ x
  pub how : Asking s x y status target d.kind

-- ---- telling y

-- x learns the table `seen` and y learns x, both in s'; x notifies, or settles
pub record Tells (s t : List ℕ) (x y : ℕ) (d : Delivery) (s' seen : List ℕ) (level pending notified notices : ℕ) : Type 0 where
  pub sender : d.sender ≡ settle (notifying_node (node_of s x) level pending notified notices)
  pub own : d.sender_table ≡ learn_table s' x seen (table_of t x)
  pub theirs : d.receiver_table ≡ learn s' y x (table_of t y)
  pub settling : Settling (notifying_node (node_of s x) level pending notified notices)

-- the level at which x attaches, its record and the state in which it does, and its pending set
abbrev pub level_at : List ℕ → List ℕ → ℕ → ℕ → ℕ
level_at s t x y = attach_level s (table_of t y) x (suffix_of s x y)

abbrev pub node_at : List ℕ → List ℕ → ℕ → ℕ → Node
node_at s t x y = notifying_node (node_of s x) (level_at s t x y) 0 (add_node 0 y) (notices_of s x)

abbrev pub state_at : List ℕ → List ℕ → ℕ → ℕ → List ℕ
state_at s t x y = with_node s x (node_at s t x y)

abbrev pub own_at : List ℕ → List ℕ → ℕ → ℕ → ℕ
own_at s t x y =
    gather s x (level_at s t x y) (add_node 0 y) (learn_table (state_at s t x y) x (table_of t y) (table_of t x)) 0

abbrev pub pending_at : List ℕ → List ℕ → ℕ → ℕ → ℕ
pending_at s t x y =
    gather s x (level_at s t x y) (add_node 0 y) (learn (state_at s t x y) y x (table_of t y)) (own_at s t x y)

pub record Attaches (s t : List ℕ) (x y : ℕ) (d : Delivery) : Type 0 where
  pub status : status_of s x ≡ waiting
  pub requested : target_of s x ≡ y
  pub in_system : is_in_system s y ≡ true
  pub room : room_at_suffix s (table_of t y) x y ≡ true
  pub low : level_at s t x y ≤ suffix_of s x y
  pub kind : d.kind ≡ kind_attached
  pub level : d.level ≡ level_at s t x y
  pub tells : Tells s t x y d (state_at s t x y) (table_of t y) (level_at s t x y) (pending_at s t x y) (add_node 0 y) (notices_of s x)

-- the pending set of a node that has notified y
abbrev pub pending_after : List ℕ → List ℕ → ℕ → ℕ → ℕ
pending_after s t x y =
    gather s x (level_of s x) (add_node (notified_of s x) y) (learn s y x (table_of t y)) (remove_node (pending_of s x) y)

pub record Notifies (s t : List ℕ) (x y : ℕ) (d : Delivery) : Type 0 where
  pub status : status_of s x ≡ notifying
  pub pending : has_node (pending_of s x) y ≡ true
  pub rules : NotifyingOk s x (node_of s x)
  pub kind : d.kind ≡ kind_notified
  pub level : d.level ≡ 0
  pub tells : Tells s t x y d s (learn s y x (table_of t y)) (level_of s x) (pending_after s t x y) (add_node (notified_of s x) y) (notices_of s x + 1)

-- ---- the three cases

pub data Did (s t : List ℕ) (x y : ℕ) (d : Delivery) : Type 0 where
  did_ask : AsksOn s t x y d → Did s t x y d
  did_attach : Attaches s t x y d → Did s t x y d
  did_notify : Notifies s t x y d → Did s t x y d

-- there is room from the common suffix on, if that has room, so the attach level is at most the common suffix
pub room_from_lem : (s Ty : List ℕ) (x h : ℕ) → has_room s Ty x h ≡ true → room_from s Ty x h h ≡ true
room_from_lem s Ty x h e =
    all_of (suc h) (below_or_room s Ty x h)
    (λ i l.
    ⊎_elim (λ q. subst (λ (m : ℕ). below_or_room s Ty x h m ≡ true) (sym q) (or_intro_right (ltb h h) (has_room s Ty x h) e))
    (λ q. or_intro_left (ltb i h) (has_room s Ty x i) (lt-ltb i h q)) (eq-or-lt_of_le (le_of_suc-le-suc l)))

level_low : (s Ty : List ℕ) (x h : ℕ) → has_room s Ty x h ≡ true → attach_level s Ty x h ≤ h
unfolding attach_level
level_low s Ty x h e = first_min (suc h) (room_from s Ty x h) h (room_from_lem s Ty x h e)

-- and the level below it has no room
pub level_least : (s Ty : List ℕ) (x h i : ℕ) → attach_level s Ty x h ≤ h → suc i ≡ attach_level s Ty x h → has_room s Ty x i ≡ false
unfolding attach_level
level_least s Ty x h i low e = ⊎_elim (λ q. absurd (omega (arith, e, first_min (suc h) (room_from s Ty x h) i (from q)))) (λ q. q) (true_or_false (has_room s Ty x i))
  where
    above : room_from s Ty x h (attach_level s Ty x h) ≡ true
    above = first_holds (suc h) (room_from s Ty x h) (omega (arith, low))

    from : has_room s Ty x i ≡ true → room_from s Ty x h i ≡ true
    from q = all_of (suc h) (below_or_room s Ty x i) (λ m l. at m l (dec_lt m i) (dec_lt i m))
      where
        at : (m : ℕ) → m < suc h → Dec (m < i) → Dec (i < m) → below_or_room s Ty x i m ≡ true
        at m l (yes g) r = or_intro_left (ltb m i) (has_room s Ty x m) (lt-ltb m i g)
        at m l (no g) (yes r) =
            or_intro_right (ltb m i) (has_room s Ty x m)
            (or_right (ltb m (attach_level s Ty x h)) _ (all_at (suc h) (below_or_room s Ty x (attach_level s Ty x h)) above m l)
            (le-ltb m (attach_level s Ty x h) (omega (arith, e, r))))
        at m l (no g) (no r) =
            let w : i ≡ m = omega arith in
            or_intro_right (ltb m i) (has_room s Ty x m) (subst (λ (m : ℕ). has_room s Ty x m ≡ true) w q)

-- a delivery is the one of its sender's status
pub delivery_is : (s t : List ℕ) (x y n : ℕ) → status_of s x ≡ n
    → delivery s t x y
    ≡ cond (eqb n copying) (deliver_copying s x y (table_of t x) (table_of t y))
    (cond (eqb n waiting) (deliver_waiting s x y (table_of t x) (table_of t y)) (deliver_notifying s x y (table_of t x) (table_of t y)))
unfolding delivery
delivery_is s t x y n =
    ap
    (λ (n : ℕ).
    cond (eqb n copying) (deliver_copying s x y (table_of t x) (table_of t y))
    (cond (eqb n waiting) (deliver_waiting s x y (table_of t x) (table_of t y)) (deliver_notifying s x y (table_of t x) (table_of t y))))

module _ (s t : List ℕ) (S : Sound s t) (x y : ℕ) (nx : IsNode s x) (ny : IsNode s y) (r : Receiver s x y) where
  abbrev room : Bool
  room = room_at_suffix s (table_of t y) x y

  abbrev next : ℕ
  next = first_at_suffix s (table_of t y) x y

  -- where E is full, its first is an attached node that matches x in more digits
  pub first_node : room_at_suffix s (table_of t y) x y ≡ false → IsNode s next × (is_attached s next ≡ true) × (suffix_of s x y < suffix_of s x next)
  first_node e =
      let h : ℕ = suffix_of s x y in
      let j : ℕ = digit_of (id_of s x) h in
      let below : suffix_of s x y < digits s = suffix_below s t S x y nx ny r.other in
      let digit : digit_of (id_of s x) (suffix_of s x y) < base s = valid_digit (base s) (digits s) (id_of s x) h (S.ids x nx) below in
      let full : depth s ≤ entry_size (depth s) (table_of t y) h j = ltb-false _ (depth s) e in
      let filled = size_filled (depth s) (table_of t y) h j 0 (omega (arith, S.settings.depth_least)) in
      let f = stands_node s S.settings y r.attached (table_of t y) (own s t S y ny) (slot_place h j 0)
      (omega (arith, S.settings.digits_most, S.settings.base_most)) filled in
      let k : SlotOk s y (table_of t y) h j 0 = (S.tables y ny).slots h j 0 below digit S.settings.depth_least filled in
      let w : common_suffix (digits s) (id_of s x) (id_of s y) ≡ common_suffix (digits s) (id_of s y) (id_of s x) = suffix_sym (digits s) (id_of s x) (id_of s y) in
      let q = next_hop_lem (digits s) (id_of s y) (id_of s next) (id_of s x) (omega (arith, w))
      (subst (λ (m : ℕ). qualified (id_of s y) (id_of s next) m (digit_of (id_of s x) m) ≡ true) w k.qual) in
      (f.0, f.1, omega (arith, w, q, suffix_sym (digits s) (id_of s next) (id_of s x)))

  asking : (d : Delivery) (status target : ℕ) → is_attached s x ≡ false → target_of s x ≡ y
      → d.sender ≡ joining_node (node_of s x) status target → d.sender_table ≡ learn_table s x (table_of t y) (table_of t x)
      → d.receiver_table ≡ table_of t y → d.level ≡ 0 → IsNode s target → is_attached s target ≡ true
      → Asking s x y status target d.kind → Did s t x y d
  asking d status target away requested e f g l n a h =
      did_ask record {
        away = away;
        requested = requested;
        status = status;
        target = target;
        sender = e;
        own = f;
        theirs = g;
        level = l;
        is_node = n;
        attached = a;
        other = attached_other s x target away a;
        how = h;
      }

  copied : status_of s x ≡ copying → target_of s x ≡ y → Did s t x y (deliver_copying s x y (table_of t x) (table_of t y))
  unfolding deliver_copying
  copied e g = go room (is_in_system s next) refl refl
    where
      d : Delivery
      d = deliver_copying s x y (table_of t x) (table_of t y)

      sender : (a b : Bool) → room ≡ a → is_in_system s next ≡ b
          → d.sender ≡ cond a (joining_node (node_of s x) waiting y) (joining_node (node_of s x) (cond b copying waiting) next)
      sender a b =
          ap₂ (λ (a b : Bool). cond a (joining_node (node_of s x) waiting y) (joining_node (node_of s x) (cond b copying waiting) next))

      asks : (status target : ℕ) → d.sender ≡ joining_node (node_of s x) status target → IsNode s target → is_attached s target ≡ true
          → Asking s x y status target kind_copied → Did s t x y d
      asks status target q = asking d status target (copying_away s x e) g q refl refl refl

      go : (a b : Bool) → room ≡ a → is_in_system s next ≡ b → Did s t x y d
      go true b p q = asks waiting y (sender true b p q) ny r.attached (starts_waiting e refl refl (inl refl))
      go false true p q =
          let f = first_node p in
          asks copying next (sender false true p q) f.0 f.1 (copies_on e refl refl q f.2)
      go false false p q =
          let f = first_node p in
          asks waiting next (sender false false p q) f.0 f.1 (starts_waiting e refl refl (inr f.2))

  waited : status_of s x ≡ waiting → target_of s x ≡ y → is_in_system s y ≡ true → Did s t x y (deliver_waiting s x y (table_of t x) (table_of t y))
  unfolding deliver_waiting deliver_sent_on deliver_attached
  waited e g i = go room refl
    where
      go : (a : Bool) → room ≡ a
          → Did s t x y (cond a (deliver_attached s x y (table_of t x) (table_of t y)) (deliver_sent_on s x y (table_of t x) (table_of t y)))
      go true p = did_attach record {
        status = e;
        requested = g;
        in_system = i;
        room = p;
        low = level_low s (table_of t y) x (suffix_of s x y) p;
        kind = refl;
        level = refl;
        tells = record { sender = refl; own = refl; theirs = refl; settling = settling _ refl };
      }
      go false p =
          let f = first_node p in
          asking (deliver_sent_on s x y (table_of t x) (table_of t y)) waiting next (waiting_away s x e) g refl refl refl refl f.0 f.1
          (waits_on e refl refl f.2)

  notifying_did : status_of s x ≡ notifying → has_node (pending_of s x) y ≡ true → NotifyingOk s x (node_of s x)
      → Did s t x y (deliver_notifying s x y (table_of t x) (table_of t y))
  unfolding deliver_notifying
  notifying_did e h o =
      did_notify record {
        status = e;
        pending = h;
        rules = o;
        kind = refl;
        level = refl;
        tells = record { sender = refl; own = refl; theirs = refl; settling = settling _ refl };
      }

  did : Sending s x y → Did s t x y (delivery s t x y)
  did (copies e g o) = subst (Did s t x y) (sym (delivery_is s t x y copying e)) (copied e g)
  did (waits e g i o) = subst (Did s t x y) (sym (delivery_is s t x y waiting e)) (waited e g i)
  did (notifies e h o) = subst (Did s t x y) (sym (delivery_is s t x y notifying e)) (notifying_did e h o)

module _ (s t : List ℕ) (S : Sound s t) (x y : ℕ) (c : CanDeliver s x y) where
  pub to_receiver : Receiver s x y
  to_receiver = receiver s x y c.receiver (sends s t S x y c)

  pub delivery_did : Did s t x y (delivery s t x y)
  delivery_did = did s t S x y c.sender c.receiver to_receiver (sends s t S x y c)

  -- the kind and the level that it answers are small numbers
  pub delivery_small : ((delivery s t x y).kind < 256) × ((delivery s t x y).level < 256)
  delivery_small = go delivery_did
    where
      kinds : {status target : ℕ} → Asking s x y status target (delivery s t x y).kind → (delivery s t x y).kind < 256
      kinds (copies_on e q k i n) = omega (arith, k)
      kinds (starts_waiting e q k n) = omega (arith, k)
      kinds (waits_on e q k n) = omega (arith, k)

      go : Did s t x y (delivery s t x y) → ((delivery s t x y).kind < 256) × ((delivery s t x y).level < 256)
      go (did_ask a) = (kinds a.how, omega (arith, a.level))
      go (did_attach a) = (
        omega (arith, a.kind),
        omega (arith, a.level, a.low, suffix_below s t S x y c.sender c.receiver to_receiver.other, S.settings.digits_most),
      )
      go (did_notify a) = (omega (arith, a.kind), omega (arith, a.level))
