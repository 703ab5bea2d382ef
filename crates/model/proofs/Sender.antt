-- What the refusals of a delivery leave: the sender's status, its request to the receiver, and that the receiver is another, attached
-- node. Assumes nothing.
use Prim.Native.Nat.{ℕ}
use mathlib.Core.Path.{◌≡◌, refl, sym, ap, ◌∙◌}
use mathlib.Core.Logic.{◌≢◌, ⊎_elim}
use mathlib.Core.Bool.{true, false, not, ◌&&◌, ◌||◌}
use mathlib.Core.List.{List}
use lib.Dec.{eqb}
use borrow.Author.Tests.{eqb-true, not-false}
use Rattle.model.specs.Memory.{node_of, status_of, target_of, pending_of, in_system, copying, waiting, notifying, is_in_system, is_joining, is_attached, has_node}
use Rattle.model.specs.Join.{outstanding}
use Rattle.model.specs.Refusals.{wait_held}
use Rattle.model.proofs.Bools.{and_left, and_right, or_cases, not_both}
use Rattle.model.proofs.Sets.{has_none}
use Rattle.model.proofs.Status.{IsNode, CopyingOk, WaitingOk, NotifyingOk, StatusOk, ok_in_system, ok_copying, ok_waiting, ok_notifying, attached_in_system, attached_other, copying_away, waiting_away}
use Rattle.model.proofs.Sound.{Sound}

pub record CanDeliver (s : List ℕ) (x y : ℕ) : Type 0 where
  pub sender : IsNode s x
  pub receiver : IsNode s y
  pub requested : outstanding s x y ≡ true
  pub free : wait_held s x y ≡ false

-- x's request to y, by x's status
pub data Sending (s : List ℕ) (x y : ℕ) : Type 0 where
  copies : status_of s x ≡ copying → target_of s x ≡ y → CopyingOk s (node_of s x) → Sending s x y
  waits : status_of s x ≡ waiting → target_of s x ≡ y → is_in_system s y ≡ true → WaitingOk s (node_of s x) → Sending s x y
  notifies : status_of s x ≡ notifying → has_node (pending_of s x) y ≡ true → NotifyingOk s x (node_of s x) → Sending s x y

-- the receiver
pub record Receiver (s : List ℕ) (x y : ℕ) : Type 0 where
  pub attached : is_attached s y ≡ true
  pub other : y ≢ x

module _ (s : List ℕ) (x y : ℕ) where
  -- the test of a status at its number
  joining_is : (n : ℕ) → status_of s x ≡ n → is_joining s x ≡ (eqb n copying || eqb n waiting)
  joining_is n e = ap (λ (v : ℕ). eqb v copying || eqb v waiting) e

  no_pending : pending_of s x ≡ 0 → has_node (pending_of s x) y ≡ true → ⊥
  no_pending e h = not_both (has_node (pending_of s x) y) h (ap (λ (a : ℕ). has_node a y) e ∙ has_none y)

  not_joining : (n : ℕ) → status_of s x ≡ n → (eqb n copying || eqb n waiting) ≡ false → (is_joining s x && eqb (target_of s x) y) ≡ true → ⊥
  not_joining n e f h = not_both (is_joining s x) (and_left (is_joining s x) (eqb (target_of s x) y) h) (joining_is n e ∙ f)

  its_target : (is_joining s x && eqb (target_of s x) y) ≡ true → target_of s x ≡ y
  its_target h = eqb-true (target_of s x) y (and_right (is_joining s x) (eqb (target_of s x) y) h)

  sending : StatusOk s x → outstanding s x y ≡ true → wait_held s x y ≡ false → Sending s x y
  unfolding outstanding
  sending (ok_in_system e o) h w =
      absurd (⊎_elim (not_joining in_system e refl) (no_pending o.pending) (or_cases _ _ h))
  sending (ok_copying e o) h w =
      ⊎_elim (λ a. copies e (its_target a) o) (λ a. absurd (no_pending o.rest.pending a)) (or_cases _ _ h)
  sending (ok_waiting e o) h w =
      ⊎_elim (λ a. waits e (its_target a) (not-false (is_in_system s y) (sym (ap (λ (v : ℕ). eqb v waiting && not (is_in_system s y)) e) ∙ w)) o)
      (λ a. absurd (no_pending o.rest.pending a)) (or_cases _ _ h)
  sending (ok_notifying e o) h w =
      ⊎_elim (λ a. absurd (not_joining notifying e refl a)) (λ a. notifies e a o) (or_cases _ _ h)

  pub receiver : IsNode s y → Sending s x y → Receiver s x y
  receiver ny (copies e t o) =
      let a : is_attached s y ≡ true = attached_in_system s y (ap (is_in_system s) (sym t) ∙ o.in_system) in
      record { attached = a; other = attached_other s x y (copying_away s x e) a }
  receiver ny (waits e t i o) =
      let a : is_attached s y ≡ true = attached_in_system s y i in
      record { attached = a; other = attached_other s x y (waiting_away s x e) a }
  receiver ny (notifies e h o) =
      let r = o.pending y ny h in
      record { attached = r.attached; other = r.other }

pub sends : (s t : List ℕ) → Sound s t → (x y : ℕ) → CanDeliver s x y → Sending s x y
sends s t S x y c = sending s x y (S.statuses x c.sender) c.requested c.free
