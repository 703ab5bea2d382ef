-- A delivery of a node that joins alone by which it tells its receiver. Assumes nothing.
use Prim.Native.Nat.{ℕ, suc, ◌+◌, ◌-◌, ◌≤◌, ◌<◌}
use mathlib.Core.Path.{◌≡◌, sym, ap, subst, ◌∙◌}
use mathlib.Core.Logic.{◌≢◌, ◌⊎◌, inl, inr, ⊎_elim}
use mathlib.Core.Bool.{true, false}
use mathlib.Core.List.{List}
use native.Mathlib.Omega.{arith}
use lib.ListN.{get_or}
use borrow.Author.Tests.{ltb-false}
use Rattle.model.specs.Ids.{digit_of}
use Rattle.model.specs.Memory.{base, digits, depth, node_count, id_of, has_node, add_node, table_of}
use Rattle.model.specs.Tables.{slot_place, slot_at, entry_size}
use Rattle.model.specs.Nodes.{suffix_of}
use Rattle.model.specs.Learning.{floor_of, room_for, learn}
use Rattle.model.specs.Join.{gather, delivery, delivered}
use Rattle.model.proofs.Bools.{true_or_false}
use Rattle.model.proofs.Ids.{digit_lt, valid_digit, low_join, suffix_low, suffix_of_low, suffix_digit, suffix_sym, suffix_through, qualified_low, qualified_digit}
use Rattle.model.proofs.Sets.{has_added, has_add, add_keeps, add_within}
use Rattle.model.proofs.Memory.{table_length}
use Rattle.model.proofs.Tables.{size_le, grows_trans}
use Rattle.model.proofs.Status.{IsNode, attached_other, waiting_away}
use Rattle.model.proofs.Sound.{SlotOk, standing, Sound, table_fits}
use Rattle.model.proofs.SoundNodes.{stands_node, own, suffix_below}
use Rattle.model.proofs.Learning.{learn_grows}
use Rattle.model.proofs.Gather.{ToNotify, gather_takes, gather_keeps}
use Rattle.model.proofs.Sender.{CanDeliver}
use Rattle.model.proofs.DeliveryDid.{level_at, Attaches, level_least, to_receiver}
use Rattle.model.proofs.ReplacingKeepsSound.{Agree, agree_both, agree_id, agree_digits, agree_depth, agree_range, agree_suffix}
use Rattle.model.proofs.TablesOnlyGrow.{Attached, settled_attached, Onward, delivered_later, delivered_agree, delivered_receiver, delivered_onward}
use Rattle.model.proofs.NoRoom.{NoRoom, no_room_by, no_room_grows, full_no_room, gapless, filled_by, node_learned}
use Rattle.model.proofs.Reaching.{Yes, Reaching}
use Rattle.model.proofs.Told.{old_node, Told}

module _ (s₀ t₀ : List ℕ) (Y : Yes s₀ t₀) (s t : List ℕ) (S : Sound s t) (on : Onward s₀ t₀ s t) (count : node_count s ≡ node_count s₀ + 1)
    (R : Reaching s₀ s t) (y : ℕ) (c : CanDeliver s (node_count s₀ + 1) y) where
  abbrev x : ℕ
  x = node_count s₀ + 1

  abbrev s₁ : List ℕ
  s₁ = (delivered s t (node_count s₀ + 1) y (delivery s t (node_count s₀ + 1) y)).state

  abbrev t₁ : List ℕ
  t₁ = (delivered s t (node_count s₀ + 1) y (delivery s t (node_count s₀ + 1) y)).tables

  attached : (u : ℕ) → IsNode s₀ u → Attached s u
  attached u n = settled_attached s u (R.is_node u n) (R.in_system u n)

  pub receiver_old : IsNode s₀ y
  receiver_old = old_node s₀ t₀ Y count y c.receiver (to_receiver s t S x y c).other

  -- ---- below the attach level every entry for x is full

  module _ (w : Attaches s t (node_count s₀ + 1) y (delivery s t (node_count s₀ + 1) y)) where
    -- e is the level below it
    module _ (e : ℕ) (at : suc e ≡ level_at s t (node_count s₀ + 1) y) where
      abbrev Ty : List ℕ
      Ty = table_of t y

      abbrev j : ℕ
      j = digit_of (id_of s (node_count s₀ + 1)) e

      shared : suc e ≤ suffix_of s x y
      shared = omega (arith, at, w.low)

      he : e < digits s
      he = omega (arith, shared, suffix_below s t S x y c.sender c.receiver (to_receiver s t S x y c).other)

      digit : (i : ℕ) → i < digits s → digit_of (id_of s (node_count s₀ + 1)) i < base s
      digit i = valid_digit (base s) (digits s) (id_of s x) i (S.ids x c.sender)

      full : entry_size (depth s) (table_of t y) e j ≡ depth s
      full =
          let f = level_least s Ty x (suffix_of s x y) e w.low at in
          omega (arith, ltb-false (entry_size (depth s) Ty e j) (depth s) f, size_le (depth s) Ty e j)

      -- a node there matches x in as many digits
      slot_near : (k : ℕ) → SlotOk s y (table_of t y) e j k → suc e ≤ suffix_of s x (slot_at (table_of t y) e j k)
      slot_near k o =
          let v : ℕ = slot_at Ty e j k in
          let low = suffix_low (digits s) (id_of s x) (id_of s y) e (omega (arith, shared)) ∙ qualified_low (id_of s y) (id_of s v) e j o.qual in
          suffix_of_low (digits s) (id_of s x) (id_of s v) (suc e) he
          (low_join (id_of s x) (id_of s v) e (sym (qualified_digit (id_of s y) (id_of s v) e j o.qual)) low)

      slot_old : (k : ℕ) → k < depth s → slot_at (table_of t y) e j k ≢ 0 → IsNode s₀ (slot_at (table_of t y) e j k)
      slot_old k l nz =
          let p : ℕ = slot_place e j k in
          let f = stands_node s S.settings y (to_receiver s t S x y c).attached Ty (own s t S y c.receiver) p
          (omega (arith, he, digit_lt (id_of s x) e, l, S.settings.digits_most, S.settings.depth_most)) nz in
          old_node s₀ t₀ Y count (slot_at Ty e j k) f.0 (attached_other s x (slot_at Ty e j k) (waiting_away s x w.status) f.1)

      full_below : (u : ℕ) → IsNode s₀ u → (i : ℕ) → i < suc e → i ≤ suffix_of s u x → NoRoom s (table_of t u) x i
      full_below u n i less low =
          full_no_room (depth s) (table_of t u) i (digit_of (id_of s x) i) x
          (filled_by s t S y e j c.receiver he (digit e he) full (table_of t u) i (digit_of (id_of s x) i)
          (gapless s t S u i (digit_of (id_of s x) i) (R.is_node u n) hi (digit i hi)) no_room)
        where
          hi : i < digits s
          hi = omega (arith, less, he)

          no_room : (k : ℕ) → k < depth s → SlotOk s y Ty e j k → slot_at Ty e j k ≢ 0
              → room_for (depth s) (table_of t u) i (digit_of (id_of s x) i) (slot_at Ty e j k) ≡ false
          no_room k l o nz =
              let v : ℕ = slot_at Ty e j k in
              let near = slot_near k o in
              let between = suffix_through (digits s) (id_of s x) (id_of s u) (id_of s v) i (omega (arith, low, suffix_sym (digits s) (id_of s x) (id_of s u))) (omega (arith, near, less)) in
              subst (λ (j : ℕ). room_for (depth s) (table_of t u) i j v ≡ false) (sym (suffix_digit (digits s) (id_of s x) (id_of s v) i (omega (arith, near, less))))
              (R.no_room u (attached u n) v (slot_old k l nz) i between hi)

    pub attach_low : (u : ℕ) → IsNode s₀ u → (i : ℕ) → i < level_at s t (node_count s₀ + 1) y → i ≤ suffix_of s u (node_count s₀ + 1)
        → NoRoom s (table_of t u) (node_count s₀ + 1) i
    attach_low u n i less low =
        let k : ℕ = level_at s t x y in
        let at : suc (level_at s t x y - 1) ≡ level_at s t x y = omega (arith, less) in
        full_below (k - 1) at u n i (omega (arith, less, at)) low

  -- ---- telling y

  module _ (s' : List ℕ) (a : Agree (node_count s₀ + 1) s s') (k before rest : ℕ) (floor : floor_of s' (node_count s₀ + 1) ≡ k)
      (reach : k ≤ suffix_of s (node_count s₀ + 1) y) (T : Told s₀ t₀ Y s t k (λ v. (has_node rest v ≡ true) ⊎ (v ≡ y)) before)
      (theirs : (delivery s t (node_count s₀ + 1) y).receiver_table ≡ learn s' y (node_count s₀ + 1) (table_of t y)) where
    abbrev told : ℕ
    told = add_node before y

    abbrev pending : ℕ
    pending = gather s (node_count s₀ + 1) k (add_node before y) (learn s' y (node_count s₀ + 1) (table_of t y)) rest

    a₁ : Agree (node_count s₀ + 1) s s₁
    a₁ = delivered_agree s t S x y c

    suffix₁ : (u v : ℕ) → suffix_of s₁ u v ≡ suffix_of s u v
    suffix₁ = agree_suffix x s s₁ a₁ c.sender.low

    -- where there was no room there is none
    kept : (u : ℕ) → IsNode s₀ u → (i : ℕ) → i < digits s → NoRoom s (table_of t u) x i → NoRoom s₁ (table_of t₁ u) x i
    kept u n i hi e =
        no_room_by s s₁ (table_of t₁ u) x i (delivered_later s t S x y c).depth (agree_id x s s₁ a₁ x)
        (no_room_grows s S.settings (table_of t u) (table_of t₁ u) x i ((delivered_onward s t S x y c).grows u (attached u n))
        (table_length t u (table_fits s t S u (R.is_node u n))) (omega arith) hi e)

    -- y has learned x
    learned : (i : ℕ) → k ≤ i → i ≤ suffix_of s y x → i < digits s → NoRoom s₁ (table_of t₁ y) x i
    learned i low high hi =
        let low₁ : 1 ≤ x = c.sender.low in
        let b : Agree x s' s₁ = agree_both x s s' s₁ a a₁ in
        rw (delivered_receiver s t S x y c (to_receiver s t S x y c).other, theirs)
        (no_room_by s' s₁ _ x i (agree_depth x s' s₁ b low₁) (agree_id x s' s₁ b x)
        (node_learned s' (agree_range x s s' a low₁ S.settings) x (omega arith) i (omega (arith, floor, low)) (omega (arith, hi, agree_digits x s s' a low₁)) y
        (omega (arith, high, agree_suffix x s s' a low₁ y x)) (table_of t y) (table_length t y (table_fits s t S y c.receiver))))

    -- each node of y's table at the yes that matches x was told, or is due now
    gathered : (p : ℕ) → p < 512 → get_or (table_of t₀ y) p 0 ≢ 0 → k ≤ suffix_of s x (get_or (table_of t₀ y) p 0)
        → (has_node told (get_or (table_of t₀ y) p 0) ≡ true) ⊎ (has_node pending (get_or (table_of t₀ y) p 0) ≡ true)
    gathered p hp nz near = ⊎_elim (λ e. inl e) (λ e. inr (due e)) (true_or_false (has_node told v))
      where
        v : ℕ
        v = get_or (table_of t₀ y) p 0

        stands : get_or (learn s' y x (table_of t y)) p 0 ≡ v
        stands =
            (grows_trans (on.grows y (settled_attached s₀ y receiver_old (Y.in_system y receiver_old))) (learn_grows s' y x (table_of t y))).kept p nz

        due : has_node told v ≡ false → has_node pending v ≡ true
        due e =
            let within = (standing s₀ Y.sound.settings y (table_of t₀ y) (Y.sound.tables y receiver_old) p hp nz).0 in
            let n : ToNotify s x k told v = record { some = nz; other = omega (arith, within); suffix = near; new = e } in
            subst (λ (v : ℕ). has_node pending v ≡ true) stands
            (gather_takes s x k told (learn s' y x (table_of t y)) rest p hp (subst (ToNotify s x k told) (sym stands) n))

    pub telling : Told s₀ t₀ Y s₁ t₁ k (λ v. has_node pending v ≡ true) told
    telling = record {
      old = add_within before (node_count s₀) y T.old receiver_old.low receiver_old.high;
      near = λ u n h.
          ⊎_elim (λ e. omega (arith, reach, suffix₁ x u, ap (suffix_of s x) e)) (λ h. omega (arith, T.near u n h, suffix₁ x u)) (which u n h);
      low = λ u n i l low hi.
          let hi₀ : i < digits s = omega (arith, hi, (delivered_later s t S x y c).digits) in
          kept u n i hi₀ (T.low u n i l (omega (arith, low, suffix₁ u x)) hi₀);
      high = λ u n h i l low hi.
          let hi₀ : i < digits s = omega (arith, hi, (delivered_later s t S x y c).digits) in
          let low₀ : i ≤ suffix_of s u x = omega (arith, low, suffix₁ u x) in
          ⊎_elim (λ e. subst (λ (u : ℕ). NoRoom s₁ (table_of t₁ u) x i) (sym e) (learned i l (omega (arith, low₀, ap (λ (u : ℕ). suffix_of s u x) e)) hi₀))
          (λ h. kept u n i hi₀ (T.high u n h i l low₀ hi₀)) (which u n h);
      closed = λ u n h p hp nz near.
          let near₀ : k ≤ suffix_of s x (get_or (table_of t₀ u) p 0) = omega (arith, near, suffix₁ x (get_or (table_of t₀ u) p 0)) in
          ⊎_elim (λ e. of_receiver u e p hp nz near₀) (λ h. of_before u n p hp nz (T.closed u n h p hp nz near₀)) (which u n h);
    }
      where
        which : (u : ℕ) → IsNode s₀ u → has_node told u ≡ true → (u ≡ y) ⊎ (has_node before u ≡ true)
        which u n = has_add before y u receiver_old.low n.low

        of_receiver : (u : ℕ) → u ≡ y → (p : ℕ) → p < 512 → get_or (table_of t₀ u) p 0 ≢ 0 → k ≤ suffix_of s x (get_or (table_of t₀ u) p 0)
            → (has_node told (get_or (table_of t₀ u) p 0) ≡ true) ⊎ (has_node pending (get_or (table_of t₀ u) p 0) ≡ true)
        of_receiver u e p hp =
            subst
            (λ (u : ℕ).
            get_or (table_of t₀ u) p 0 ≢ 0 → k ≤ suffix_of s x (get_or (table_of t₀ u) p 0)
            → (has_node told (get_or (table_of t₀ u) p 0) ≡ true) ⊎ (has_node pending (get_or (table_of t₀ u) p 0) ≡ true))
            (sym e) (gathered p hp)

        of_before : (u : ℕ) → IsNode s₀ u → (p : ℕ) → p < 512 → get_or (table_of t₀ u) p 0 ≢ 0
            → (has_node before (get_or (table_of t₀ u) p 0) ≡ true) ⊎ ((has_node rest (get_or (table_of t₀ u) p 0) ≡ true) ⊎ (get_or (table_of t₀ u) p 0 ≡ y))
            → (has_node told (get_or (table_of t₀ u) p 0) ≡ true) ⊎ (has_node pending (get_or (table_of t₀ u) p 0) ≡ true)
        of_before u n p hp nz (inl h) = inl (add_keeps before y (get_or (table_of t₀ u) p 0) receiver_old.low (omega (arith, nz)) h)
        of_before u n p hp nz (inr (inl h)) =
            inr (gather_keeps s x k told (learn s' y x (table_of t y)) rest (get_or (table_of t₀ u) p 0) (omega (arith, nz)) h)
        of_before u n p hp nz (inr (inr e)) = inl (ap (has_node told) e ∙ has_added before y)
