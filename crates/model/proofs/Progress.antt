-- In a sound state in which some node is not in system, some delivery can be taken. Assumes nothing.
use Prim.Native.Nat.{ℕ}
use mathlib.Core.Path.{◌≡◌, refl, ap, ◌∙◌}
use mathlib.Core.Logic.{◌≢◌, ◌⊎◌, inl, inr, ⊎_elim}
use mathlib.Core.Bool.{Bool, true, false, not, ◌&&◌, ◌||◌, and-false}
use mathlib.Core.List.{List}
use native.Mathlib.Decide.{ℕ_discrete}
use lib.Dec.{eqb}
use borrow.Author.Tests.{eqb-true, eq-eqb}
use Rattle.model.specs.Memory.{node_count, node_of, status_of, target_of, pending_of, in_system, copying, waiting, notifying, is_in_system, is_joining, is_attached}
use Rattle.model.specs.Join.{outstanding}
use Rattle.model.proofs.Bools.{and_intro, or_cases, or_intro_left, or_intro_right, not_both}
use Rattle.model.proofs.Sets.{has_some}
use Rattle.model.proofs.Status.{IsNode, NotifyingOk, StatusOk, ok_in_system, ok_copying, ok_waiting, ok_notifying, attached_notifying, attached_other, notifying_out, waiting_away}
use Rattle.model.proofs.Sound.{Sound}
use Rattle.model.proofs.Sender.{CanDeliver}
use Rattle.model.proofs.TablesOnlyGrow.{sender_out}

module _ (s : List ℕ) (x : ℕ) (nx : IsNode s x) where
  -- x copies or waits, at a node in system
  joining_can : (n : ℕ) → status_of s x ≡ n → (eqb n copying || eqb n waiting) ≡ true → IsNode s (target_of s x) → is_in_system s (target_of s x) ≡ true
      → CanDeliver s x (target_of s x)
  unfolding outstanding
  joining_can n e j nt i =
      record {
        sender = nx;
        receiver = nt;
        requested =
            or_intro_left _ _ (and_intro _ _ (ap (λ (v : ℕ). eqb v copying || eqb v waiting) e ∙ j) (eq-eqb (target_of s x) (target_of s x) refl));
        free = ap (λ (b : Bool). eqb (status_of s x) waiting && not b) i ∙ and-false (eqb (status_of s x) waiting);
      }

  -- x notifies
  notifying_can : status_of s x ≡ notifying → NotifyingOk s x (node_of s x) → (y : ℕ) × CanDeliver s x y
  unfolding outstanding
  notifying_can e o =
      let w = has_some (pending_of s x) (node_count s) o.some o.pending_within in (
        w.0,
        record {
          sender = nx;
          receiver = record { low = w.1; high = w.2 };
          requested = or_intro_right (is_joining s x && eqb (target_of s x) w.0) _ w.3;
          free = ap (λ (v : ℕ). eqb v waiting && not (is_in_system s w.0)) e;
        },
      )

  -- x waits at a node that notifies
  record Held : Type 0 where
    status : status_of s x ≡ waiting
    node : IsNode s (target_of s x)
    notifies : status_of s (target_of s x) ≡ notifying

  own_or_held : StatusOk s x → is_in_system s x ≡ false → ((y : ℕ) × CanDeliver s x y) ⊎ Held
  own_or_held (ok_in_system e o) out = absurd (not_both (is_in_system s x) (ap (λ (v : ℕ). eqb v in_system) e) out)
  own_or_held (ok_copying e o) out = inl (target_of s x, joining_can copying e refl o.is_node o.in_system)
  own_or_held (ok_waiting e o) out =
      ⊎_elim (λ i. inl (target_of s x, joining_can waiting e refl o.is_node i))
      (λ h. inr (record { status = e; node = o.is_node; notifies = eqb-true _ _ h })) (or_cases _ _ o.attached)
  own_or_held (ok_notifying e o) out = inl (notifying_can e o)

module _ (s t : List ℕ) (S : Sound s t) where
  -- one of a node that has not settled, or, where that waits at a notifying node, one of that node
  pub some_delivery : (x : ℕ) → IsNode s x → is_in_system s x ≡ false → (w : ℕ) × (y : ℕ) × CanDeliver s w y
  some_delivery x nx out = ⊎_elim (λ w. (x, w.0, w.1)) there (own_or_held s x nx (S.statuses x nx) out)
    where
      there : Held s x nx → (w : ℕ) × (y : ℕ) × CanDeliver s w y
      there h =
          let z = target_of s x in
          ⊎_elim (λ w. (z, w.0, w.1))
          (λ g. absurd (not_both (is_attached s z) (attached_notifying s z h.notifies) (waiting_away s z g.status)))
          (own_or_held s z h.node (S.statuses z h.node) (notifying_out s z h.notifies))

  -- where all nodes but x are in system
  module _ (x : ℕ) (nx : IsNode s x) (others : (u : ℕ) → IsNode s u → u ≢ x → is_in_system s u ≡ true) where
    -- a delivery that can be taken is one of x
    pub only_own : (y z : ℕ) → CanDeliver s y z → y ≡ x
    only_own y z c = go (ℕ_discrete y x)
      where
        go : Dec (y ≡ x) → y ≡ x
        go (yes e) = e
        go (no e) = absurd (not_both (is_in_system s y) (others y c.sender e) (sender_out s t S y z c))

    -- while x is not in system one of its own can be taken
    pub some_own : is_in_system s x ≡ false → (y : ℕ) × CanDeliver s x y
    some_own out = ⊎_elim (λ w. w) (λ h. absurd (none h)) (own_or_held s x nx (S.statuses x nx) out)
      where
        none : Held s x nx → ⊥
        none h =
            let z = target_of s x in
            let other : z ≢ x = attached_other s x z (waiting_away s x h.status) (attached_notifying s z h.notifies) in
            not_both (is_in_system s z) (others z h.node other) (notifying_out s z h.notifies)
