-- A node that attaches has learned enough: where its receiver has no room for a node in system, it has none itself. Assumes nothing.
use Prim.Native.Nat.{ℕ, ◌≤◌, ◌<◌}
use mathlib.Core.Path.{◌≡◌, sym, ap, subst, subst₂, ◌∙◌}
use mathlib.Core.Logic.{◌≢◌, ⊎_elim}
use mathlib.Core.Bool.{true, false}
use mathlib.Core.List.{List}
use native.Mathlib.Nat.{le_refl}
use native.Mathlib.Decide.{dec_lt, ℕ_discrete}
use native.Mathlib.Omega.{arith}
use lib.ListN.{get_or}
use borrow.Author.Tests.{ltb-true}
use Rattle.model.specs.Ids.{digit_of}
use Rattle.model.specs.Memory.{base, digits, depth, id_of, is_in_system, table_of}
use Rattle.model.specs.Tables.{slot_place, slot_at, entry_size, holds}
use Rattle.model.specs.Nodes.{suffix_of}
use Rattle.model.specs.Learning.{floor_of, room_for}
use Rattle.model.specs.Join.{Delivery, delivery, delivered}
use Rattle.model.proofs.Ids.{digit_lt, suffix_digit, suffix_sym, suffix_through, qualified_suffix, qualified_digit, valid_digit}
use Rattle.model.proofs.Memory.{table_length}
use Rattle.model.proofs.Tables.{GapFree}
use Rattle.model.proofs.Status.{IsNode, attached_other, waiting_away}
use Rattle.model.proofs.Sound.{SlotOk, Sound, table_fits}
use Rattle.model.proofs.SoundNodes.{stands_node, own, suffix_below}
use Rattle.model.proofs.LearningKeepsRules.{entries_of, gap_free}
use Rattle.model.proofs.Sender.{CanDeliver}
use Rattle.model.proofs.DeliveryDid.{state_at, Attaches, to_receiver}
use Rattle.model.proofs.ReplacingKeepsSound.{Agree, agree_kept, agree_id, agree_digits, agree_depth, agree_range, agree_suffix}
use Rattle.model.proofs.DeliveryKeepsSound.{delivered_ok}
use Rattle.model.proofs.TablesOnlyGrow.{delivered_later, delivered_count, delivered_sender, attach_agree}
use Rattle.model.proofs.Floors.{Floors, floor_in_system, floor_same}
use Rattle.model.proofs.NoRoom.{NoRoom, no_room_cases, full_no_room, place, held_place, filled_by, no_room_by, table_learned}

module _ (s t : List ℕ) (S : Sound s t) (x y : ℕ) (c : CanDeliver s x y) (w : Attaches s t x y (delivery s t x y)) (F : Floors s t) where
  abbrev s' : List ℕ
  s' = state_at s t x y

  abbrev Ty : List ℕ
  Ty = table_of t y

  abbrev d : Delivery
  d = delivery s t x y

  abbrev h : ℕ
  h = suffix_of s x y

  a : Agree x s (state_at s t x y)
  a = attach_agree s t S x y c

  below : suffix_of s x y < digits s
  below = suffix_below s t S x y c.sender c.receiver (to_receiver s t S x y c).other

  -- x has learned v, which stands in y's table
  learns : (p : ℕ) → p < 512 → get_or Ty p 0 ≢ 0 → (i : ℕ) → floor_of s (get_or Ty p 0) ≤ i → i ≤ suffix_of s x (get_or Ty p 0) → i < digits s
      → NoRoom s d.sender_table (get_or Ty p 0) i
  learns p hp nz i floor low hi =
      let v : ℕ = get_or Ty p 0 in
      let f = stands_node s S.settings y (to_receiver s t S x y c).attached Ty (own s t S y c.receiver) p hp nz in
      let other = attached_other s x v (waiting_away s x w.status) f.1 in
      let low₁ : 1 ≤ x = c.sender.low in
      no_room_by s' s d.sender_table v i (sym (agree_depth x s s' a low₁)) (sym (agree_id x s s' a v))
      (subst (λ (T : List ℕ). NoRoom s' T v i) (sym w.tells.own)
      (table_learned s' (agree_range x s s' a low₁ S.settings) x Ty p hp nz other i (omega (arith, floor, floor_same s s' v (agree_kept x s s' a v other))) (omega (arith, low, agree_suffix x s s' a low₁ x v))
      (omega (arith, hi, agree_digits x s s' a low₁)) (table_of t x) (table_length t x (table_fits s t S x c.sender))))

  -- a slot of y's entry (i, j), its place in the table and the floor of the node there
  module _ (i j k : ℕ) (hi : i < digits s) (hj : j < 16) (hk : k < depth s) where
    place_fits : slot_place i j k < 512
    place_fits = omega (arith, hi, hj, hk, S.settings.digits_most, S.settings.depth_most)

    slot_floor : slot_at Ty i j k ≢ 0 → floor_of s (slot_at Ty i j k) ≤ i
    slot_floor nz = go (ℕ_discrete (slot_at Ty i j k) y)
      where
        go : Dec (slot_at Ty i j k ≡ y) → floor_of s (slot_at Ty i j k) ≤ i
        go (yes e) = omega (arith, ap (floor_of s) e, floor_in_system s y w.in_system)
        go (no e) = omega (arith, F y c.receiver (slot_place i j k) place_fits nz e, hk, hj, S.settings.depth_most)

  -- the table that x has then has no gap
  gapless : (i j : ℕ) → i < digits s → j < base s → GapFree (depth s) d.sender_table i j
  gapless i j hi hj =
      let s₁ : List ℕ = (delivered s t x y d).state in
      let T₁ : List ℕ = table_of (delivered s t x y d).tables x in
      let l = delivered_later s t S x y c in
      let n : IsNode (delivered s t x y d).state x = record { low = c.sender.low; high = omega (arith, c.sender.high, delivered_count s t S x y c) } in
      subst₂ (λ (K : ℕ) (T : List ℕ). GapFree K T i j) l.depth (delivered_sender s t S x y c)
      (gap_free s₁ x T₁ (entries_of s₁ x T₁ ((delivered_ok s t S x y c).tables x n)) i j (omega (arith, hi, l.digits)) (omega (arith, hj, l.base)))

  -- z is in system, and y has no room for it
  module _ (z : ℕ) (nz : IsNode s z) (settled : is_in_system s z ≡ true)
      (none : (i : ℕ) → i ≤ suffix_of s y z → i < digits s → NoRoom s (table_of t y) z i) where
    -- x has learned z, where it stands in y's table
    learns_it : (i j : ℕ) → i < digits s → j < 16 → holds (depth s) (table_of t y) i j z ≡ true
        → (k : ℕ) → k ≤ suffix_of s x z → k < digits s → NoRoom s (delivery s t x y).sender_table z k
    learns_it i j hi hj held k low hk =
        let f = held_place (depth s) Ty i j z held in
        let p : ℕ = slot_place i j (place (depth s) Ty i j z) in
        let zero = floor_in_system s z settled in
        subst (λ (v : ℕ). NoRoom s d.sender_table v k) f.1
        (learns p (place_fits i j (place (depth s) Ty i j z) hi hj f.0) (λ e. omega (arith, sym f.1 ∙ e, nz.low)) k
        (omega (arith, ap (floor_of s) f.1, zero)) (omega (arith, ap (suffix_of s x) f.1, low)) hk)

    -- up to the common suffix of x and y, x has learned what fills y's entry
    learns_full : (i : ℕ) → i ≤ suffix_of s x y → entry_size (depth s) (table_of t y) i (digit_of (id_of s z) i) ≡ depth s
        → NoRoom s (delivery s t x y).sender_table z i
    learns_full i low full =
        full_no_room (depth s) d.sender_table i j z
        (filled_by s t S y i j c.receiver hi hj full d.sender_table i j (gapless i j hi hj) no_room)
      where
        j : ℕ
        j = digit_of (id_of s z) i

        hi : i < digits s
        hi = omega (arith, low, below)

        hj : j < base s
        hj = valid_digit (base s) (digits s) (id_of s z) i (S.ids z nz) hi

        no_room : (k : ℕ) → k < depth s → SlotOk s y Ty i j k → slot_at Ty i j k ≢ 0
            → room_for (depth s) d.sender_table i j (slot_at Ty i j k) ≡ false
        no_room k l slot filled =
            let v : ℕ = slot_at Ty i j k in
            let near = qualified_suffix (digits s) (id_of s y) (id_of s v) i j (omega (arith, hi)) slot.qual in
            let back = suffix_sym (digits s) (id_of s x) (id_of s y) in
            subst (λ (j : ℕ). room_for (depth s) d.sender_table i j v ≡ false) (qualified_digit (id_of s y) (id_of s v) i j slot.qual)
            (learns (slot_place i j k) (place_fits i j k hi (digit_lt (id_of s z) i) l) filled i (slot_floor i j k hi (digit_lt (id_of s z) i) l filled)
            (suffix_through (digits s) (id_of s y) (id_of s x) (id_of s v) i (omega (arith, low, back)) near) hi)

    -- above it there was room at y, so z stands there
    stands_above : suffix_of s x y < suffix_of s x z → holds (depth s) (table_of t y) (suffix_of s x y) (digit_of (id_of s z) (suffix_of s x y)) z ≡ true
    stands_above more =
        ⊎_elim (λ e. e) (λ full. absurd (omega (arith, room, ap (entry_size (depth s) Ty h) same, full)))
        (no_room_cases (depth s) Ty h (digit_of (id_of s z) h) z (none h near below))
      where
        same : digit_of (id_of s x) h ≡ digit_of (id_of s z) h
        same = suffix_digit (digits s) (id_of s x) (id_of s z) h more

        room : entry_size (depth s) Ty h (digit_of (id_of s x) h) < depth s
        room = ltb-true _ (depth s) w.room

        near : h ≤ suffix_of s y z
        near = suffix_through (digits s) (id_of s x) (id_of s y) (id_of s z) h (le_refl h) (omega (arith, more))

    pub attached_no_room : (i : ℕ) → i ≤ suffix_of s x z → i < digits s → NoRoom s (delivery s t x y).sender_table z i
    attached_no_room i low hi = go (dec_lt (suffix_of s x y) i)
      where
        j : ℕ
        j = digit_of (id_of s z) i

        go : Dec (suffix_of s x y < i) → NoRoom s d.sender_table z i
        go (yes g) = learns_it h (digit_of (id_of s z) h) below (digit_lt (id_of s z) h) (stands_above (omega (arith, g, low))) i low hi
        go (no g) =
            ⊎_elim (λ held. learns_it i j hi (digit_lt (id_of s z) i) held i low hi) (learns_full i (omega arith))
            (no_room_cases (depth s) Ty i j z
            (none i (suffix_through (digits s) (id_of s x) (id_of s y) (id_of s z) i (omega arith) low) hi))
