-- Nobody stands below its floor in another's table where every node is in system, and beginnings, withdrawals and deliveries keep that. Assumes
-- nothing.
use Prim.Native.Nat.{ℕ, suc, ◌+◌, ◌/◌, ◌≤◌, ◌<◌}
use mathlib.Core.Path.{◌≡◌, sym, ap, subst, ◌∙◌}
use mathlib.Core.Logic.{◌≢◌, ⊎_elim}
use mathlib.Core.Bool.{true, false, cond}
use mathlib.Core.List.{List}
use native.Mathlib.Decide.{ℕ_discrete}
use native.Mathlib.Nat.{le_trans}
use native.Mathlib.Omega.{arith}
use lib.Dec.{eqb}
use lib.ListN.{get_or}
use borrow.Author.Tests.{eqb-true, ne_eqb}
use Rattle.model.specs.Memory.{Node, depth, node_count, node_of, id_of, status_of, level_of, in_system, copying, waiting, notifying}
use Rattle.model.specs.Memory.{is_in_system, is_attached, table_of}
use Rattle.model.specs.Tables.{append}
use Rattle.model.specs.Nodes.{suffix_of}
use Rattle.model.specs.Learning.{floor_of, learn_at, learn, learn_place, learn_table}
use Rattle.model.specs.Join.{Delivery, notifying_node, begun, withdrawn, delivery, delivered}
use Rattle.model.proofs.Bools.{or_right, not_both}
use Rattle.model.proofs.Loops.{each_keeps}
use Rattle.model.proofs.Splice.{set_keeps}
use Rattle.model.proofs.Ids.{digit_lt}
use Rattle.model.proofs.Memory.{same_status, same_level}
use Rattle.model.proofs.Status.{IsNode, node_among, waiting_away}
use Rattle.model.proofs.Sound.{standing, Sound}
use Rattle.model.proofs.OwnTable.{own_only}
use Rattle.model.proofs.Learning.{Appended, learn_at_cases, learn_place_cases}
use Rattle.model.proofs.Settling.{Settling, settles, stays}
use Rattle.model.proofs.BeginningKeepsSound.{CanBegin, begun_kept, begun_node, begun_table, begun_own}
use Rattle.model.proofs.Sender.{CanDeliver}
use Rattle.model.proofs.DeliveryDid.{AsksOn, Asking, copies_on, starts_waiting, waits_on, Tells, Did, did_ask, did_attach, did_notify, state_at, delivery_did, node_at}
use Rattle.model.proofs.ReplacingKeepsSound.{Agree, agree_refl, agree_both, agree_kept, agree_depth}
use Rattle.model.proofs.TablesOnlyGrow.{delivered_count, delivered_agree, delivered_record, delivered_each, attach_record, attach_agree}
use Rattle.model.proofs.Withdrawing.{withdrawn_count, withdrawn_later, withdrawn_kept, table_kept}

-- each other node in u's table T stands at its floor or above it
abbrev pub AboveFloor : List ℕ → ℕ → List ℕ → Type 0
AboveFloor s u T = (p : ℕ) → p < 512 → get_or T p 0 ≢ 0 → get_or T p 0 ≢ u → floor_of s (get_or T p 0) ≤ p / 64

-- and so in the table of every node
abbrev pub Floors : List ℕ → List ℕ → Type 0
Floors s t = (u : ℕ) → IsNode s u → AboveFloor s u (table_of t u)

-- ---- the floor, by the record

floor_by : (s : List ℕ) (u n : ℕ) → status_of s u ≡ n → floor_of s u ≡ cond (eqb n notifying) (level_of s u) 0
floor_by s u n = ap (λ (v : ℕ). cond (eqb v notifying) (level_of s u) 0)

-- a node in system has floor 0
pub floor_in_system : (s : List ℕ) (u : ℕ) → is_in_system s u ≡ true → floor_of s u ≡ 0
floor_in_system s u e = floor_by s u in_system (eqb-true (status_of s u) in_system e)

-- a notifying node's floor is its attach level
pub floor_notifying : (s : List ℕ) (u : ℕ) → status_of s u ≡ notifying → floor_of s u ≡ level_of s u
floor_notifying s u = floor_by s u notifying

-- the floor is the same where the record is
pub floor_same : (s s' : List ℕ) (u : ℕ) → node_of s' u ≡ node_of s u → floor_of s' u ≡ floor_of s u
floor_same s s' u = ap (λ (r : Node). cond (eqb r.status notifying) r.level 0)

-- no floor rises where x's does not, and only x's record changes
floor_lower : (x : ℕ) (s s' : List ℕ) → Agree x s s' → (u : ℕ) → (u ≡ x → floor_of s' x ≤ floor_of s x) → floor_of s' u ≤ floor_of s u
floor_lower x s s' a u h = go (ℕ_discrete u x)
  where
    go : Dec (u ≡ x) → floor_of s' u ≤ floor_of s u
    go (yes e) = subst (λ (u : ℕ). floor_of s' u ≤ floor_of s u) (sym e) (h e)
    go (no e) = omega (arith, floor_same s s' u (agree_kept x s s' a u e))

-- ---- learning

module _ (s : List ℕ) (x : ℕ) (low : depth s ≤ 4) where
  learn_at_above : (u i : ℕ) (T : List ℕ) → AboveFloor s x T → AboveFloor s x (learn_at s u i T)
  unfolding append
  learn_at_above u i T f = ⊎_elim appended (λ e. rw e f) (learn_at_cases s u i T)
    where
      appended : Appended s u i T → AboveFloor s x (learn_at s u i T)
      appended a p h =
          rw a.is
          (set_keeps (λ (v : ℕ). v ≢ 0 → v ≢ x → floor_of s v ≤ p / 64) T _ u p (f p h)
          (λ e nz ne. omega (arith, a.floor, a.room, digit_lt (id_of s u) i)))

  learn_above : (u : ℕ) (T : List ℕ) → AboveFloor s x T → AboveFloor s x (learn s x u T)
  unfolding learn
  learn_above u T f = each_keeps (AboveFloor s x) (suc (suffix_of s x u)) (learn_at s u) T f (λ i T' l. learn_at_above u i T')

  learn_table_above : (Y T : List ℕ) → AboveFloor s x T → AboveFloor s x (learn_table s x Y T)
  unfolding learn_table
  learn_table_above Y T f =
      each_keeps (AboveFloor s x) 512 (learn_place s x Y) T f
      (λ p T' l g. ⊎_elim (λ e. rw e g) (λ c. rw c.2 (learn_above (get_or Y p 0) T' g)) (learn_place_cases s x Y p T'))

-- ---- a table that does not change

module _ (s t : List ℕ) (S : Sound s t) (z : ℕ) (n : IsNode s z) where
  -- another node in it is attached
  stands_other : (p : ℕ) → p < 512 → get_or (table_of t z) p 0 ≢ 0 → get_or (table_of t z) p 0 ≢ z
      → IsNode s (get_or (table_of t z) p 0) × (is_attached s (get_or (table_of t z) p 0) ≡ true)
  stands_other p h nz ne =
      let f = standing s S.settings z (table_of t z) (S.tables z n) p h nz in
      (record { low = omega (arith, nz); high = f.0 }, or_right (eqb (get_or (table_of t z) p 0) z) _ f.1 (ne_eqb _ z ne))

  -- so it is enough that no attached node's floor rises
  above_on : (s' : List ℕ) → ((u : ℕ) → IsNode s u → is_attached s u ≡ true → floor_of s' u ≤ floor_of s u) → AboveFloor s z (table_of t z)
      → AboveFloor s' z (table_of t z)
  above_on s' l f p h nz ne = let o = stands_other p h nz ne in le_trans (l (get_or (table_of t z) p 0) o.0 o.1) (f p h nz ne)

-- where every node is in system
pub settled_floors : (s t : List ℕ) → Sound s t → ((u : ℕ) → IsNode s u → is_in_system s u ≡ true) → Floors s t
settled_floors s t S all u n p h nz ne =
    omega (arith, floor_in_system s (get_or (table_of t u) p 0) (all _ (stands_other s t S u n p h nz ne).0))

-- ---- kept by a beginning and by a withdrawal

-- the new node has learned nobody, and the other tables and their nodes' records are as they were
pub begun_floors : (s t : List ℕ) (id gateway : ℕ) → Sound s t → CanBegin s id gateway → Floors s t
    → Floors (begun s t id gateway).state (begun s t id gateway).tables
begun_floors s t id gateway S c F z n = ⊎_elim newest earlier (begun_node s t id gateway S c z n)
  where
    s₁ : List ℕ
    s₁ = (begun s t id gateway).state

    t₁ : List ℕ
    t₁ = (begun s t id gateway).tables

    x : ℕ
    x = node_count s + 1

    newest : z ≡ x → AboveFloor s₁ z (table_of t₁ z)
    newest e =
        subst (λ (z : ℕ). AboveFloor s₁ z (table_of t₁ z)) (sym e)
        (rw (begun_own s t id gateway S c) (λ p h nz ne. absurd (ne (own_only _ id x p h nz))))

    earlier : IsNode s z → AboveFloor s₁ z (table_of t₁ z)
    earlier o =
        rw (begun_table s t id gateway S c z o)
        (above_on s t S z o s₁ (λ u nu e. omega (arith, floor_same s s₁ u (begun_kept s t id gateway S c u nu))) (F z o))

-- whoever stood in another's table is there still, with the same record
pub withdrawn_floors : (s t : List ℕ) → Sound s t → is_attached s (node_count s) ≡ false → Floors s t
    → Floors (withdrawn s t).state (withdrawn s t).tables
withdrawn_floors s t S away F z n =
    let o : IsNode s z = (withdrawn_kept s t S away z n).0 in
    rw (table_kept s t S z n.low (omega (arith, n.high, withdrawn_count s t S, S.some))) (above_on s t S z o s₁ same (F z o))
  where
    s₁ : List ℕ
    s₁ = (withdrawn s t).state

    same : (u : ℕ) → IsNode s u → is_attached s u ≡ true → floor_of s₁ u ≤ floor_of s u
    same u nu e = omega (arith, floor_same s s₁ u (withdrawn_kept s t S away u ((withdrawn_later s t S away).stays u nu e)).1)

-- ---- kept by a delivery

module _ (s t : List ℕ) (S : Sound s t) (x y : ℕ) (c : CanDeliver s x y) (F : Floors s t) where
  abbrev d : Delivery
  d = delivery s t x y

  abbrev s₁ : List ℕ
  s₁ = (delivered s t x y (delivery s t x y)).state

  abbrev t₁ : List ℕ
  t₁ = (delivered s t x y (delivery s t x y)).tables

  stored : node_of s₁ x ≡ d.sender
  stored = delivered_record s t S x y c

  back : (z : ℕ) → IsNode s₁ z → IsNode s z
  back = node_among s₁ s (omega (arith, delivered_count s t S x y c))

  -- x and y learn in s', where x's floor is no higher than before, if it was attached, and no lower than after
  module _ (s' : List ℕ) (a : Agree x s s') (first : is_attached s x ≡ true → floor_of s' x ≤ floor_of s x)
      (last : floor_of s₁ x ≤ floor_of s' x) where
    low : depth s' ≤ 4
    low = omega (arith, agree_depth x s s' a c.sender.low, S.settings.depth_most)

    old : (z : ℕ) → IsNode s z → AboveFloor s' z (table_of t z)
    old z n = above_on s t S z n s' (λ u nu e. floor_lower x s s' a u (λ q. first (ap (is_attached s) (sym q) ∙ e))) (F z n)

    on : (z : ℕ) (T : List ℕ) → AboveFloor s' z T → AboveFloor s₁ z T
    on z T f p h nz ne = le_trans (floor_lower x s' s₁ (agree_both x s s' s₁ a (delivered_agree s t S x y c)) (get_or T p 0) (λ q. last)) (f p h nz ne)

    learned : (seen : List ℕ) → d.sender_table ≡ learn_table s' x seen (table_of t x) → AboveFloor s' y d.receiver_table
        → Floors s₁ t₁
    learned seen own their z n =
        delivered_each s t S x y c (AboveFloor s₁)
        (on x d.sender_table (rw own (learn_table_above s' x low seen (table_of t x) (old x c.sender))))
        (on y d.receiver_table their) (λ z n. on z (table_of t z) (old z n)) z (back z n)

    told : {seen : List ℕ} {k pending notified notices : ℕ} → Tells s t x y d s' seen k pending notified notices
        → Floors s₁ t₁
    told {seen} w = learned seen w.own (rw w.theirs (learn_above s' y low x (table_of t y) (old y c.receiver)))

  -- x asks on: its floor is 0
  asks_floors : AsksOn s t x y d → Floors s₁ t₁
  asks_floors w =
      learned s (agree_refl x s) (λ e. omega arith) (omega (arith, zero w.how)) (table_of t y) w.own (rw w.theirs (F y c.receiver))
    where
      zero : Asking s x y w.status w.target d.kind → floor_of s₁ x ≡ 0
      zero (copies_on e q k i n) = floor_by s₁ x copying (same_status (stored ∙ w.sender) ∙ q)
      zero (starts_waiting e q k n) = floor_by s₁ x waiting (same_status (stored ∙ w.sender) ∙ q)
      zero (waits_on e q k n) = floor_by s₁ x waiting (same_status (stored ∙ w.sender) ∙ q)

  -- x tells y: its floor is its level, or it settles
  tells_floors : {s' seen : List ℕ} {k pending notified notices : ℕ} → Agree x s s' → (is_attached s x ≡ true → floor_of s' x ≤ floor_of s x)
      → floor_of s' x ≡ k → Tells s t x y d s' seen k pending notified notices → Floors s₁ t₁
  tells_floors {s'} {seen} {k} {pending} {notified} {notices} a first level w = told s' a first (omega (arith, level, last w.settling)) w
    where
      last : Settling (notifying_node (node_of s x) k pending notified notices) → floor_of s₁ x ≤ k
      last (settles p q) = omega (arith, floor_by s₁ x in_system (same_status (stored ∙ w.sender ∙ q)))
      last (stays p q) =
          let e = stored ∙ w.sender ∙ q in omega (arith, floor_notifying s₁ x (same_status e), same_level e)

  -- a node that attaches stood in no other's table, and a notifying one keeps its level until it settles
  pub delivered_floors : Floors (delivered s t x y (delivery s t x y)).state (delivered s t x y (delivery s t x y)).tables
  delivered_floors = go (delivery_did s t S x y c)
    where
      at : node_of (state_at s t x y) x ≡ node_at s t x y
      at = attach_record s t S x y c

      go : Did s t x y d → Floors s₁ t₁
      go (did_ask w) = asks_floors w
      go (did_attach w) =
          tells_floors (attach_agree s t S x y c)
          (λ e. absurd (not_both (is_attached s x) e (waiting_away s x w.status)))
          (floor_notifying (state_at s t x y) x (same_status at) ∙ same_level at) w.tells
      go (did_notify w) = tells_floors (agree_refl x s) (λ e. omega arith) (floor_notifying s x w.status) w.tells
