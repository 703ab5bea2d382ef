-- A written image is one that reading takes: the image of a state pictures it, and what pictures a sound state keeps every rule of an
-- image. Record r of the image is that of the place with r filled places before it. Assumes nothing.
use Prim.Native.Nat.{ℕ, ◌+◌, ◌-◌, ◌*◌, ◌/◌, ◌%◌, ◌≤◌, ◌<◌}
use mathlib.Core.Path.{◌≡◌, refl, sym, ap, ap₂, subst, subst₂, subst₃, ◌∙◌}
use mathlib.Core.Logic.{◌≢◌, ◌⊎◌, inl, inr}
use mathlib.Core.Bool.{Bool, true, false, not, ◌||◌}
use mathlib.Core.List.{List}
use native.Mathlib.Decide.{dec_lt, ℕ_discrete}
use native.Mathlib.Omega.{arith}
use lib.Dec.{eqb}
use lib.ListN.{length, get_or}
use borrow.Author.Tests.{eqb-true, eq-eqb, lt-ltb, le-leb}
use Rattle.model.specs.Loops.{any_below, count_below}
use Rattle.model.specs.Ids.{valid_id, digit_of}
use Rattle.model.specs.Memory.{base, digits, depth, node_count, id_of, table_start, table_of}
use Rattle.model.specs.Tables.{qualified, slot_place, slot_at}
use Rattle.model.specs.Sound.{place_used}
use Rattle.model.specs.Image.{im_base, im_digits, im_depth, im_nodes, im_id, im_records, rec_node, rec_level, rec_digit, rec_neighbor, same_entry, rises_from, rec_ordered, rec_allowed, same_neighbor, rec_own, rec_owner_first, rec_of_own, own_has_record, own_have_records}
use Rattle.model.proofs.Bools.{back_false, back_true, and_left, and_right, and_intro, or_intro_left, or_intro_right, true_or_false}
use Rattle.model.proofs.Loops.{all_of, any_of, any_false}
use Rattle.model.proofs.Ids.{InRange, valid_digit}
use Rattle.model.proofs.Memory.{table_at}
use Rattle.model.proofs.Status.{IsNode}
use Rattle.model.proofs.Sound.{SlotOk, Sound, table_fits, used_place}
use Rattle.model.proofs.RecordRules.{entry_key, key_le, SameEntry, same_entry_lem, of_same_entry}
use Rattle.model.proofs.LoadingIsSound.{GoodImage}
use Rattle.model.proofs.Counting.{Ranked, count_finds, count_mono, count_rises, count_most}
use Rattle.model.proofs.Records.{filled_at, place_at, filled_nonzero, filled_of}
use Rattle.model.proofs.Sections.{Pictures}

-- ---- a filled place of a sound state

-- the slots of p's entry
pub slot_place_lem : (t : List ℕ) (p : ℕ) → 512 * (p / 512) + 512 ≤ length t → (k : ℕ) → k < 4
    → slot_at (table_of t (p / 512 + 1)) (p % 512 / 64) (p % 64 / 4) k ≡ get_or t (4 * (p / 4) + k) 0
slot_place_lem t p fits k h =
    let w : 512 * (p / 512) + slot_place (p % 512 / 64) (p % 64 / 4) k ≡ 4 * (p / 4) + k = omega arith in
    place_at t (p / 512) fits (slot_place (p % 512 / 64) (p % 64 / 4) k) (omega arith) ∙ ap (λ (p : ℕ). get_or t p 0) w

-- p is in the table of node p / 512 + 1, at level p % 512 / 64, digit p % 64 / 4 and slot p % 4
pub record SlotIn (s t : List ℕ) (p : ℕ) : Type 0 where
  pub owner : IsNode s (p / 512 + 1)
  pub level : p % 512 / 64 < digits s
  pub digit : p % 64 / 4 < base s
  pub slot : p % 4 < depth s
  pub at : (k : ℕ) → k < 4 → slot_at (table_of t (p / 512 + 1)) (p % 512 / 64) (p % 64 / 4) k ≡ get_or t (4 * (p / 4) + k) 0
  pub here : slot_at (table_of t (p / 512 + 1)) (p % 512 / 64) (p % 64 / 4) (p % 4) ≡ get_or t p 0
  pub ok : SlotOk s (p / 512 + 1) (table_of t (p / 512 + 1)) (p % 512 / 64) (p % 64 / 4) (p % 4)

module _ (s t : List ℕ) (S : Sound s t) where
  pub slot_in : (p : ℕ) → p < 512 * node_count s → filled_at t p ≡ true → SlotIn s t p
  slot_in p l e = record {
    owner = x;
    level = level;
    digit = digit;
    slot = slot;
    at = at;
    here = here;
    ok = (S.tables (p / 512 + 1) x).slots (p % 512 / 64) (p % 64 / 4) (p % 4) level digit slot (λ z. filled_nonzero t p e (sym here ∙ z));
  }
    where
      x : IsNode s (p / 512 + 1)
      x = record { low = omega arith; high = omega arith }

      fits : 512 * (p / 512) + 512 ≤ length t
      fits = omega (arith, S.few, S.long.tables)

      at : (k : ℕ) → k < 4 → slot_at (table_of t (p / 512 + 1)) (p % 512 / 64) (p % 64 / 4) k ≡ get_or t (4 * (p / 4) + k) 0
      at = slot_place_lem t p fits

      here : slot_at (table_of t (p / 512 + 1)) (p % 512 / 64) (p % 64 / 4) (p % 4) ≡ get_or t p 0
      here = let w : 4 * (p / 4) + p % 4 ≡ p = omega arith in at (p % 4) (omega arith) ∙ ap (λ (p : ℕ). get_or t p 0) w

      used : place_used s (p % 512) ≡ true
      used =
          let w : 512 * (p / 512) + p % 512 ≡ p = omega arith in
          back_true (place_used s (p % 512)) true
          (λ f. absurd (filled_nonzero t p e (sym (place_at t (p / 512) fits (p % 512) (omega arith) ∙ ap (λ (p : ℕ). get_or t p 0) w) ∙ (S.tables (p / 512 + 1) x).unused (p % 512) (omega arith) f))) refl

      level : p % 512 / 64 < digits s
      level = (used_place s (p % 512) used).0

      digit : p % 64 / 4 < base s
      digit = let w : p % 512 % 64 / 4 ≡ p % 64 / 4 = omega arith in omega (arith, (used_place s (p % 512) used).1)

      slot : p % 4 < depth s
      slot = let w : p % 512 % 4 ≡ p % 4 = omega arith in omega (arith, (used_place s (p % 512) used).2)

-- ---- the order of places

-- entries are numbered in the order of their places, four places each
entry_of : (p : ℕ) → p / 4 ≡ 128 * (p / 512) + 16 * (p % 512 / 64) + p % 64 / 4
entry_of p = omega arith

abbrev key_at : ℕ → ℕ
key_at p = entry_key (p / 512 + 1) (p % 512 / 64) (p % 64 / 4)

-- and their keys rise and are equal as these numbers do
key_number : (x i j y k l : ℕ) → i < 8 → j < 16 → k < 8 → l < 16 → entry_key (x + 1) i j ≡ entry_key (y + 1) k l
    → 128 * x + 16 * i + j ≡ 128 * y + 16 * k + l
key_number x i j y k l hi hj hk hl e = omega arith

number_rises : (x i j y k l : ℕ) → i < 8 → j < 16 → k < 8 → l < 16 → 128 * x + 16 * i + j ≤ 128 * y + 16 * k + l
    → entry_key (x + 1) i j ≤ entry_key (y + 1) k l
number_rises x i j y k l hi hj hk hl e = omega arith

key_place : (p q : ℕ) → key_at p ≡ key_at q → p / 4 ≡ q / 4
key_place p q e =
    entry_of p ∙ key_number _ _ _ _ _ _ (omega arith) (omega arith) (omega arith) (omega arith) e ∙ sym (entry_of q)

place_rises : (q p : ℕ) → q < p → key_at q ≤ key_at p
place_rises q p l =
    let e : q / 4 ≤ p / 4 = omega arith in
    number_rises _ _ _ _ _ _ (omega arith) (omega arith) (omega arith) (omega arith) (subst₂ ◌≤◌ (entry_of q) (entry_of p) e)

-- ---- the records of an image that pictures the state

module _ (im s t : List ℕ) (S : Sound s t) (P : Pictures im s t) where
  abbrev filled : ℕ → Bool
  filled = filled_at t

  abbrev N : ℕ
  N = 512 * node_count s

  -- record r is that of place p
  record Of (r p : ℕ) : Type 0 where
    within : p < N
    holds : filled p ≡ true
    rank : count_below p filled ≡ r
    node : rec_node im r ≡ p / 512 + 1
    level : rec_level im r ≡ p % 512 / 64
    digit : rec_digit im r ≡ p % 64 / 4
    neighbor : rec_neighbor im r ≡ get_or t p 0

  -- a filled place has a record, and each record has a place
  of_place : (p : ℕ) → p < N → filled p ≡ true → Of (count_below p filled) p
  of_place p l e = record {
    within = l;
    holds = e;
    rank = refl;
    node = P.bytes p 0 l e (omega arith);
    level = P.bytes p 1 l e (omega arith);
    digit = P.bytes p 2 l e (omega arith);
    neighbor = P.bytes p 3 l e (omega arith);
  }

  -- the place of record r
  pick : (r : ℕ) → Dec (r < count_below N filled) → ℕ
  pick r (yes l) = (count_finds N filled r l).place
  pick r (no g) = 0

  place : ℕ → ℕ
  place r = pick r (dec_lt r (count_below N filled))

  picked : (r : ℕ) → r < count_below N filled → (d : Dec (r < count_below N filled)) → Of r (pick r d)
  unfolding pick
  picked r h (yes l) =
      let w : Ranked N filled r = count_finds N filled r l in
      subst (λ (r : ℕ). Of r w.place) w.rank (of_place w.place w.within w.holds)
  picked r h (no g) = absurd (g h)

  of_record : (r : ℕ) → r < im_records im → Of r (place r)
  unfolding place
  of_record r h = picked r (omega (arith, P.count)) (dec_lt r (count_below N filled))

  -- records stand in the order of their places
  before : (q r p' p : ℕ) → q < r → Of q p' → Of r p → p' < p
  before q r p' p l A B = go (dec_lt p' p)
    where
      go : Dec (p' < p) → p' < p
      go (yes h) = h
      go (no g) = absurd (omega (arith, count_mono p p' filled (omega arith), A.rank, B.rank))

  -- records of the same entry
  same_of : (q r p' p : ℕ) → Of q p' → Of r p → same_entry im r q ≡ true → p' / 4 ≡ p / 4
  same_of q r p' p A B e =
      let S : SameEntry im r q = same_entry_lem im r q e in
      key_place p' p (omega (arith, A.node, A.level, A.digit, B.node, B.level, B.digit, S.node, S.level, S.digit))

  of_same : (q r p' p : ℕ) → Of q p' → Of r p → p' / 4 ≡ p / 4 → same_entry im r q ≡ true
  of_same q r p' p A B e =
      let ex : p' / 512 + 1 ≡ p / 512 + 1 = omega arith in
      let ei : p' % 512 / 64 ≡ p % 512 / 64 = omega arith in
      let ej : p' % 64 / 4 ≡ p % 64 / 4 = omega arith in
      of_same_entry im r q
      (record {
        node = A.node ∙ ex ∙ sym B.node;
        level = A.level ∙ ei ∙ sym B.level;
        digit = A.digit ∙ ej ∙ sym B.digit;
      })

  im_node : (x : ℕ) → 1 ≤ x → x ≤ im_nodes im → IsNode s x
  im_node x l h = record { low = l; high = omega (arith, P.nodes) }

  -- ---- one record, of place p

  module _ (r : ℕ) (h : r < im_records im) (p : ℕ) (A : Of r p) where
    slot : SlotIn s t p
    slot = slot_in s t S p A.within A.holds

    abbrev x : ℕ
    x = p / 512 + 1

    abbrev T : List ℕ
    T = table_of t (p / 512 + 1)

    owner : (1 ≤ rec_node im r) × (rec_node im r ≤ im_nodes im)
    owner = (omega (arith, A.node), omega (arith, A.node, P.nodes, slot.owner.high))

    neighbor_node : IsNode s (get_or t p 0)
    neighbor_node =
        let nz : get_or t p 0 ≡ 0 → ⊥ = filled_nonzero t p A.holds in
        record { low = omega (arith, nz); high = omega (arith, slot.here, slot.ok.within) }

    neighbors : (1 ≤ rec_neighbor im r) × (rec_neighbor im r ≤ im_nodes im)
    neighbors = (omega (arith, A.neighbor, neighbor_node.low), omega (arith, A.neighbor, P.nodes, neighbor_node.high))

    -- it is not below the record before it
    ordered : (Q : r ≢ 0 → Of (r - 1) (place (r - 1))) → rec_ordered im r ≡ true
    unfolding rec_ordered rises_from
    ordered Q =
        and_intro _ _ (lt-ltb (rec_level im r) (im_digits im) (omega (arith, A.level, P.digits, slot.level)))
        (and_intro _ _ (lt-ltb (rec_digit im r) (im_base im) (omega (arith, A.digit, P.base, slot.digit))) (go (ℕ_discrete r 0)))
      where
        go : Dec (r ≡ 0) → (eqb r 0 || rises_from im (r - 1) r) ≡ true
        go (yes z) = or_intro_left _ _ (eq-eqb r 0 z)
        go (no nz) =
            let B : Of (r - 1) (place (r - 1)) = Q nz in
            let l : place (r - 1) < p = before (r - 1) r (place (r - 1)) p (omega arith) B A in
            or_intro_right (eqb r 0) _ (rises (place (r - 1)) l B)
          where
            rises : (q : ℕ) → q < p → Of (r - 1) q → rises_from im (r - 1) r ≡ true
            rises q l B =
                rw (B.node, B.level, B.digit, A.node, A.level, A.digit)
                (key_le (q / 512 + 1) (q % 512 / 64) (q % 64 / 4) (p / 512 + 1) (p % 512 / 64) (p % 64 / 4) (omega arith) (omega arith) (omega arith) (omega arith)
                ∙ le-leb (key_at q) (key_at p) (place_rises q p l))

    ids_of : (a b : ℕ) → a ≡ x → b ≡ get_or t p 0 → (im_id im a ≡ id_of s x) × (im_id im b ≡ id_of s (get_or t p 0))
    ids_of a b ea eb =
        (ap (im_id im) ea ∙ P.ids x slot.owner, ap (im_id im) eb ∙ P.ids (get_or t p 0) neighbor_node)

    -- the neighbour is qualified
    qualifies_here : qualified (im_id im (rec_node im r)) (im_id im (rec_neighbor im r)) (rec_level im r) (rec_digit im r) ≡ true
    qualifies_here =
        let e = ids_of (rec_node im r) (rec_neighbor im r) A.node A.neighbor in
        ap₂ (λ (a b : ℕ). qualified a b (rec_level im r) (rec_digit im r)) e.0 e.1
        ∙ ap₂ (λ (i j : ℕ). qualified (id_of s x) (id_of s (get_or t p 0)) i j) A.level A.digit
        ∙ ap (λ (u : ℕ). qualified (id_of s x) (id_of s u) (p % 512 / 64) (p % 64 / 4)) (sym slot.here)
        ∙ slot.ok.qual

    -- the records before it
    module _ (Q : (q : ℕ) → q < r → Of q (place q)) where
      -- the earlier ones of its entry stand in lower slots, with other neighbours, so they are fewer than K
      earlier : (q : ℕ) → q < r → same_entry im r q ≡ true → (place q / 4 ≡ p / 4) × (place q % 4 < p % 4)
      earlier q l e =
          let w : place q / 4 ≡ p / 4 = same_of q r (place q) p (Q q l) A e in
          let g : place q < p = before q r (place q) p l (Q q l) A in
          (w, omega arith)

      different : (q : ℕ) → q < r → same_neighbor im r q ≡ true → ⊥
      different q l e =
          let w = earlier q l (and_left _ _ e) in
          let a : 4 * (p / 4) + place q % 4 ≡ place q = omega (arith, w.0) in
          let u : rec_neighbor im q ≡ rec_neighbor im r = eqb-true _ _ (and_right (same_entry im r q) _ e) in
          slot.ok.fresh (place q % 4) w.1
          (slot.at (place q % 4) (omega arith)
          ∙ ap (λ (p : ℕ). get_or t p 0) a
          ∙ sym (Q q l).neighbor
          ∙ u
          ∙ A.neighbor
          ∙ sym slot.here)

      few_before : count_below r (same_entry im r) ≤ p % 4
      few_before =
          count_most r (p % 4) (same_entry im r) (λ q. place q % 4) (λ q l e. (earlier q l e).1)
          (λ a b la lb ea eb w.
          let wa : place a / 4 ≡ p / 4 = (earlier a la ea).0 in
          let wb : place b / 4 ≡ p / 4 = (earlier b lb eb).0 in
          let v : place a ≡ place b = omega arith in
          sym (Q a la).rank ∙ ap (λ (p : ℕ). count_below p filled) v ∙ (Q b lb).rank)

      allowed : rec_allowed im r ≡ true
      unfolding rec_allowed
      allowed =
          and_intro _ _ qualifies_here
          (and_intro _ _
          (ap not (any_false r (same_neighbor im r) (λ q l. back_false (same_neighbor im r q) false (λ e. absurd (different q l e)) refl)))
          (lt-ltb (count_below r (same_entry im r)) (im_depth im) (omega (arith, few_before, P.depth, slot.slot))))

    -- an own entry begins with its owner
    owner_first : rec_owner_first im r ≡ true
    unfolding rec_owner_first
    owner_first = go (true_or_false (rec_own im r)) (ℕ_discrete (p % 4) 0)
      where
        x_first : rec_own im r ≡ true → p % 4 ≡ 0 → rec_neighbor im r ≡ rec_node im r
        x_first e z =
            let j : p % 64 / 4 ≡ digit_of (id_of s x) (p % 512 / 64) =
            sym A.digit
            ∙ eqb-true _ _ e
            ∙ ap₂ digit_of (ids_of (rec_node im r) (rec_neighbor im r) A.node A.neighbor).0 A.level in
            A.neighbor
            ∙ sym slot.here
            ∙ ap₂ (λ (j k : ℕ). slot_at T (p % 512 / 64) j k) j z
            ∙ (S.tables x slot.owner).owner (p % 512 / 64) slot.level
            ∙ sym A.node

        -- the slot before it is filled, so the record before it is of the same entry
        not_alone : p % 4 ≢ 0 → any_below r (same_entry im r) ≡ true
        not_alone nz =
            let l : p - 1 < p = omega arith in
            let w : 4 * (p / 4) + (p % 4 - 1) ≡ p - 1 = omega arith in
            let f : filled (p - 1) ≡ true =
            filled_of t (p - 1)
            (λ z. slot.ok.gap nz (slot.at (p % 4 - 1) (omega arith) ∙ ap (λ (p : ℕ). get_or t p 0) w ∙ z)) in
            let B : Of (count_below (p - 1) filled) (p - 1) = of_place (p - 1) (omega (arith, A.within)) f in
            let g : count_below (p - 1) filled < r = omega (arith, count_rises (p - 1) p filled l f, A.rank) in
            let e : (p - 1) / 4 ≡ p / 4 = omega arith in
            any_of r (same_entry im r) (count_below (p - 1) filled) g (of_same (count_below (p - 1) filled) r (p - 1) p B A e)

        go : (rec_own im r ≡ true) ⊎ (rec_own im r ≡ false) → Dec (p % 4 ≡ 0)
            → (not (rec_own im r) || (any_below r (same_entry im r) || eqb (rec_neighbor im r) (rec_node im r))) ≡ true
        go (inr f) d = or_intro_left _ _ (ap not f)
        go (inl e) (yes z) =
            or_intro_right (not (rec_own im r)) _ (or_intro_right (any_below r (same_entry im r)) _ (eq-eqb _ _ (x_first e z)))
        go (inl e) (no nz) = or_intro_right (not (rec_own im r)) _ (or_intro_left _ _ (not_alone nz))

  -- each own entry has a record
  module _ (x : ℕ) (n : IsNode s x) where
    own_record : (i : ℕ) → i < digits s → own_has_record im x i ≡ true
    unfolding own_has_record
    own_record i hi =
        let j : ℕ = digit_of (id_of s x) i in
        let hj : digit_of (id_of s x) i < base s = valid_digit (base s) (digits s) (id_of s x) i (S.ids x n) hi in
        let p : ℕ = table_start x + slot_place i (digit_of (id_of s x) i) 0 in
        let lx : 1 ≤ x = n.low in
        let hx : x ≤ node_count s = n.high in
        let hd : digits s ≤ 8 = S.settings.digits_most in
        let hb : base s ≤ 16 = S.settings.base_most in
        let l : table_start x + slot_place i (digit_of (id_of s x) i) 0 < N = omega arith in
        let v : get_or t p 0 ≡ x =
        sym (table_at t x (table_fits s t S x n) (slot_place i j 0) (omega arith)) ∙ (S.tables x n).owner i hi in
        let f : filled p ≡ true = filled_of t p (λ z. omega (arith, sym v ∙ z, lx)) in
        let A : Of (count_below p filled) p = of_place p l f in
        let r : ℕ = count_below p filled in
        let ex : p / 512 + 1 ≡ x = omega arith in
        let ei : p % 512 / 64 ≡ i = omega arith in
        let ej : p % 64 / 4 ≡ digit_of (id_of s x) i = omega arith in
        let a : rec_node im r ≡ x = A.node ∙ ex in
        let b : rec_level im r ≡ i = A.level ∙ ei in
        let own : rec_own im r ≡ true = eq-eqb _ _ (A.digit ∙ ej ∙ sym (ap₂ digit_of (ap (im_id im) a ∙ P.ids x n) b)) in
        any_of (im_records im) (rec_of_own im x i) r (omega (arith, P.count, count_rises p N filled l f))
        (and_intro _ _ (eq-eqb _ x a) (and_intro _ _ (eq-eqb _ i b) own))

  -- the whole
  pub written_readable : GoodImage im
  unfolding own_have_records
  written_readable = record {
    range = subst₃ InRange (sym P.base) (sym P.digits) (sym P.depth) S.settings;
    some = omega (arith, P.nodes, S.some);
    few = omega (arith, P.nodes, S.few);
    ids =
        λ x l h.
        subst₃ (λ (b d id : ℕ). valid_id b d id ≡ true) (sym P.base) (sym P.digits) (sym (P.ids x (im_node x l h)))
        (S.ids x (im_node x l h));
    new =
        λ x y h l g e.
        let nx : IsNode s x = im_node x (omega (arith, l, g)) h in
        let ny : IsNode s y = im_node y l (omega (arith, h, g)) in
        S.new x y nx l g (sym (P.ids y ny) ∙ e ∙ P.ids x nx);
    owners = λ r h. owner r h (place r) (of_record r h);
    neighbors = λ r h. neighbors r h (place r) (of_record r h);
    ordered = λ r h. ordered r h (place r) (of_record r h) (λ nz. of_record (r - 1) (omega (arith, h)));
    allowed = λ r h. allowed r h (place r) (of_record r h) (λ q l. of_record q (omega (arith, h, l)));
    owner_first = λ r h. owner_first r h (place r) (of_record r h);
    own =
        λ x l h.
        all_of (im_digits im) (own_has_record im x) (λ i g. own_record x (im_node x l h) i (omega (arith, P.digits, g)));
  }
