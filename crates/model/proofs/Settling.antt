-- A notifying node's record settles exactly where its pending set is empty. Assumes nothing.
use Prim.Native.Nat.{ℕ, ◌<◌}
use mathlib.Core.Path.{◌≡◌, refl, ap, ap₂, ◌∙◌}
use mathlib.Core.Logic.{◌⊎◌, inl, inr}
use mathlib.Core.Bool.{Bool, true, false, cond, ◌&&◌}
use mathlib.Core.List.{List}
use native.Mathlib.Omega.{arith}
use lib.Dec.{eqb}
use borrow.Author.Tests.{eqb-true, eqb-false}
use Rattle.model.specs.Memory.{Node, node_of, in_system, notifying, is_attached}
use Rattle.model.specs.Join.{in_system_node, settle}
use Rattle.model.proofs.Bools.{true_or_false}
use Rattle.model.proofs.Memory.{same_id, same_status}
use Rattle.model.proofs.Status.{attached_by}

-- nothing is pending and it settles, or it goes on notifying
pub data Settling (r : Node) : Type 0 where
  settles : r.pending ≡ 0 → settle r ≡ in_system_node r → Settling r
  stays : 0 < r.pending → settle r ≡ r → Settling r

module _ (r : Node) (e : r.status ≡ notifying) where
  pub settle_is : (b : Bool) → eqb r.pending 0 ≡ b → settle r ≡ cond b (in_system_node r) r
  unfolding settle
  settle_is b = ap₂ (λ (m : ℕ) (b : Bool). cond (eqb m notifying && b) (in_system_node r) r) e

  pub settling : Settling r
  settling = go (true_or_false (eqb r.pending 0))
    where
      go : (eqb r.pending 0 ≡ true) ⊎ (eqb r.pending 0 ≡ false) → Settling r
      go (inl q) = settles (eqb-true r.pending 0 q) (settle_is true q)
      go (inr q) = let nz = eqb-false r.pending 0 q in stays (omega (arith, nz)) (settle_is false q)

  pub settled_is : eqb (settle r).status in_system ≡ eqb r.pending 0
  settled_is = ap (λ (n : Node). eqb n.status in_system) (settle_is (eqb r.pending 0) refl) ∙ go (eqb r.pending 0)
    where
      go : (b : Bool) → eqb (cond b (in_system_node r) r).status in_system ≡ b
      go true = refl
      go false = ap (λ (m : ℕ). eqb m in_system) e

  pub settle_id : (settle r).id ≡ r.id
  settle_id = go settling
    where
      go : Settling r → (settle r).id ≡ r.id
      go (settles p q) = same_id q
      go (stays p q) = same_id q

  -- either way it is attached
  pub settle_attached : (s : List ℕ) (x : ℕ) → node_of s x ≡ settle r → is_attached s x ≡ true
  settle_attached s x o = go settling
    where
      go : Settling r → is_attached s x ≡ true
      go (settles p q) = attached_by s x in_system (same_status (o ∙ q))
      go (stays p q) = attached_by s x notifying (same_status (o ∙ q) ∙ e)
