-- From a point at which the network passed the verdict on: no attached node has room for a node of that time, whatever joins are under way, and so lookups
-- from the one to the other arrive. s₀ is the state at that point. Assumes nothing.
use Prim.Native.Nat.{ℕ, ◌+◌, ◌≤◌, ◌<◌}
use mathlib.Core.Path.{◌≡◌, sym, ap, subst, ◌∙◌}
use mathlib.Core.Logic.{◌⊎◌, inl, inr, ⊎_elim}
use mathlib.Core.Bool.{true, false}
use mathlib.Core.List.{List}
use native.Mathlib.Nat.{le_refl}
use native.Mathlib.Decide.{ℕ_discrete}
use native.Mathlib.Omega.{arith}
use Rattle.model.specs.Memory.{digits, depth, node_count, is_in_system, is_attached, has_node, table_of}
use Rattle.model.specs.Nodes.{suffix_of, count_nodes}
use Rattle.model.specs.Lookup.{lookup}
use Rattle.model.specs.Join.{begun, withdrawn, delivery, delivered}
use Rattle.model.proofs.Bools.{not_both}
use Rattle.model.proofs.Nodes.{suffix_by}
use Rattle.model.proofs.Memory.{same_status, table_length}
use Rattle.model.proofs.Status.{IsNode, attached_notifying, attached_same, copying_away}
use Rattle.model.proofs.Sound.{Sound, table_fits}
use Rattle.model.proofs.BeginningKeepsSound.{CanBegin, begun_node, begun_kept, begun_new}
use Rattle.model.proofs.Withdrawing.{withdrawn_kept, withdrawn_onward}
use Rattle.model.proofs.Sender.{CanDeliver}
use Rattle.model.proofs.ReplacingKeepsSound.{agree_kept, agree_id, agree_digits, agree_depth, agree_suffix}
use Rattle.model.proofs.DeliveryDid.{asking_away, Attaches, Did, did_ask, did_attach, did_notify, delivery_did}
use Rattle.model.proofs.TablesOnlyGrow.{Attached, settled_attached, Onward, begun_onward, delivered_count, delivered_record, delivered_agree, delivered_sender, delivered_onward}
use Rattle.model.proofs.NextHop.{level_below}
use Rattle.model.proofs.Consistency.{Whole}
use Rattle.model.proofs.NoRoom.{NoRoom, no_room_by, no_room_grows, whole_no_room}
use Rattle.model.proofs.Failures.{few_failed}
use Rattle.model.proofs.Floors.{Floors, settled_floors, begun_floors, withdrawn_floors, delivered_floors}
use Rattle.model.proofs.Attaching.{attached_no_room}

-- the network passes the verdict
pub record Yes (s t : List ℕ) : Type 0 where
  pub sound : Sound s t
  pub in_system : (u : ℕ) → IsNode s u → is_in_system s u ≡ true
  pub whole : Whole s t

module _ (s₀ : List ℕ) where
  -- the nodes of that time are in system, and no attached node has room for them
  pub record Reaching (s t : List ℕ) : Type 0 where
    pub floors : Floors s t
    pub is_node : (z : ℕ) → IsNode s₀ z → IsNode s z
    pub in_system : (z : ℕ) → IsNode s₀ z → is_in_system s z ≡ true
    pub no_room : (u : ℕ) → Attached s u → (z : ℕ) → IsNode s₀ z → (i : ℕ) → i ≤ suffix_of s u z → i < digits s → NoRoom s (table_of t u) z i

  -- ---- so lookups arrive, while fewer than K nodes have failed

  pub reaching_arrives : (s t : List ℕ) → Sound s t → Reaching s t → (failed z : ℕ) → IsNode s₀ z → has_node failed z ≡ false
      → count_nodes s (has_node failed) < depth s → (u : ℕ) → Attached s u → (lookup s t failed u z).arrived ≡ 1
  reaching_arrives s t S R failed z nz left few =
      few_failed s t S failed z (R.is_node z nz) left few
      (λ u a ne. R.no_room u a z nz (suffix_of s u z) (le_refl (suffix_of s u z)) (level_below s t S u z a.node (R.is_node z nz) ne))

  -- ---- a taken call keeps it

  -- what was attached before it has no room after it
  module _ (s t s' t' : List ℕ) (S : Sound s t) (on : Onward s t s' t') (R : Reaching s t) where
    attached₀ : (z : ℕ) → IsNode s₀ z → Attached s z
    attached₀ z n = settled_attached s z (R.is_node z n) (R.in_system z n)

    still : (u : ℕ) → Attached s u → (z : ℕ) → IsNode s₀ z → (i : ℕ) → i ≤ suffix_of s' u z → i < digits s' → NoRoom s' (table_of t' u) z i
    still u a z n i low hi =
        let suffix = suffix_by s s' u z on.digits (on.ids u a) (on.ids z (attached₀ z n)) in
        let hi₀ : i < digits s = omega (arith, hi, on.digits) in
        no_room_by s s' (table_of t' u) z i on.depth (on.ids z (attached₀ z n))
        (no_room_grows s S.settings (table_of t u) (table_of t' u) z i (on.grows u a) (table_length t u (table_fits s t S u a.node))
        (λ e. omega (arith, e, n.low)) hi₀ (R.no_room u a z n i (omega (arith, low, suffix)) hi₀))

    -- u has no room for them then
    abbrev NoRoomAt : ℕ → Type 0
    NoRoomAt u = (z : ℕ) → IsNode s₀ z → (i : ℕ) → i ≤ suffix_of s' u z → i < digits s' → NoRoom s' (table_of t' u) z i

    onward_reaching : Floors s' t' → ((u : ℕ) → Attached s' u → Attached s u ⊎ NoRoomAt u) → Reaching s' t'
    onward_reaching F which = record {
      floors = F;
      is_node = λ z n. (on.attached z (attached₀ z n)).node;
      in_system = λ z n. on.in_system z (R.is_node z n) (R.in_system z n);
      no_room = λ u a. ⊎_elim (still u) (λ r. r) (which u a);
    }

  pub begun_reaching : (s t : List ℕ) (id gateway : ℕ) → Sound s t → CanBegin s id gateway → Reaching s t
      → Reaching (begun s t id gateway).state (begun s t id gateway).tables
  begun_reaching s t id gateway S c R =
      onward_reaching s t _ _ S (begun_onward s t id gateway S c) R (begun_floors s t id gateway S c R.floors) before
    where
      s₁ : List ℕ
      s₁ = (begun s t id gateway).state

      away : (u : ℕ) → u ≡ node_count s + 1 → is_attached s₁ u ≡ false
      away u e = ap (is_attached s₁) e ∙ copying_away s₁ (node_count s + 1) (same_status (begun_new s t id gateway S c))

      before : (u : ℕ) → Attached s₁ u → Attached s u ⊎ NoRoomAt s t s₁ _ S (begun_onward s t id gateway S c) R u
      before u a =
          ⊎_elim (λ e. absurd (not_both (is_attached s₁ u) a.status (away u e)))
          (λ n. inl (record { node = n; status = sym (attached_same s s₁ u (begun_kept s t id gateway S c u n)) ∙ a.status }))
          (begun_node s t id gateway S c u a.node)

  pub withdrawn_reaching : (s t : List ℕ) → Sound s t → is_attached s (node_count s) ≡ false → Reaching s t
      → Reaching (withdrawn s t).state (withdrawn s t).tables
  withdrawn_reaching s t S away R =
      onward_reaching s t _ _ S (withdrawn_onward s t S away) R (withdrawn_floors s t S away R.floors)
      (λ u a.
      let k = withdrawn_kept s t S away u a.node in
      inl (record { node = k.0; status = sym (attached_same s (withdrawn s t).state u k.1) ∙ a.status }))

  -- tables that gain nodes while every node is in system
  pub grown_reaching : (s t t' : List ℕ) → Sound s t → Sound s t' → ((u : ℕ) → IsNode s u → is_in_system s u ≡ true) → Onward s t s t' → Reaching s t → Reaching s t'
  grown_reaching s t t' S S' settled on R = onward_reaching s t s t' S on R (settled_floors s t' S' settled) (λ u a. inl a)

  -- a delivery may attach its sender
  module _ (s t : List ℕ) (S : Sound s t) (x y : ℕ) (c : CanDeliver s x y) (R : Reaching s t) where
    abbrev s₁ : List ℕ
    s₁ = (delivered s t x y (delivery s t x y)).state

    abbrev t₁ : List ℕ
    t₁ = (delivered s t x y (delivery s t x y)).tables

    on : Onward s t s₁ t₁
    on = delivered_onward s t S x y c

    -- which then has no room for them: its receiver was in system and had none
    attaching : Attaches s t x y (delivery s t x y) → NoRoomAt s t s₁ t₁ S on R x
    attaching w z n i low hi =
        let a = delivered_agree s t S x y c in
        let low₁ : 1 ≤ x = c.sender.low in
        let b : Attached s y = settled_attached s y c.receiver w.in_system in
        rw (delivered_sender s t S x y c)
        (no_room_by s s₁ (delivery s t x y).sender_table z i (agree_depth x s s₁ a low₁) (agree_id x s s₁ a z)
        (attached_no_room s t S x y c w R.floors z (R.is_node z n) (R.in_system z n) (R.no_room y b z n) i
        (omega (arith, low, agree_suffix x s s₁ a low₁ x z)) (omega (arith, hi, agree_digits x s s₁ a low₁))))

    -- x was attached before, or attaches now
    sender : is_attached s₁ x ≡ true → Attached s x ⊎ NoRoomAt s t s₁ t₁ S on R x
    sender e = go (delivery_did s t S x y c)
      where
        go : Did s t x y (delivery s t x y) → Attached s x ⊎ NoRoomAt s t s₁ t₁ S on R x
        go (did_ask w) =
            absurd (not_both (is_attached s₁ x) e (asking_away w.how s₁ (same_status (delivered_record s t S x y c ∙ w.sender))))
        go (did_attach w) = inr (attaching w)
        go (did_notify w) = inl (record { node = c.sender; status = attached_notifying s x w.status })

    pub delivered_reaching : Reaching (delivered s t x y (delivery s t x y)).state (delivered s t x y (delivery s t x y)).tables
    delivered_reaching = onward_reaching s t s₁ t₁ S on R (delivered_floors s t S x y c R.floors) (λ u a. before u a (ℕ_discrete u x))
      where
        before : (u : ℕ) → Attached s₁ u → Dec (u ≡ x) → Attached s u ⊎ NoRoomAt s t s₁ t₁ S on R u
        before u a (yes e) =
            subst (λ (u : ℕ). Attached s u ⊎ NoRoomAt s t s₁ t₁ S on R u) (sym e) (sender (ap (is_attached s₁) (sym e) ∙ a.status))
        before u a (no e) = inl (record {
          node = record { low = a.node.low; high = omega (arith, a.node.high, delivered_count s t S x y c) };
          status = sym (attached_same s s₁ u (agree_kept x s s₁ (delivered_agree s t S x y c) u e)) ∙ a.status;
        })

-- at that point itself
pub yes_reaching : (s t : List ℕ) → Yes s t → Reaching s s t
yes_reaching s t Y = record {
  floors = settled_floors s t Y.sound Y.in_system;
  is_node = λ z n. n;
  in_system = Y.in_system;
  no_room = λ u a z n i. whole_no_room s t Y.sound Y.whole u z i a.node n;
}
