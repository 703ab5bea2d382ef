-- The records of an image that reading takes are those of the tables that it gives: each record is put behind the place of the one before
-- it, so the filled places, in rising order, are the records in theirs. Assumes nothing.
use Prim.Native.Nat.{ℕ, zero, suc, ◌+◌, ◌-◌, ◌*◌, ◌/◌, ◌%◌, ◌≤◌, ◌<◌}
use mathlib.Core.Path.{◌≡◌, refl, sym, ap, ap₂, subst, ◌∙◌}
use mathlib.Core.Logic.{◌≢◌, ◌⊎◌, inl, inr, ⊎_elim}
use mathlib.Core.Bool.{true, cond, ◌&&◌}
use mathlib.Core.List.{List, [], ◌∷◌, ◌++◌}
use native.Mathlib.Decide.{ℕ_discrete}
use native.Mathlib.Omega.{arith}
use lib.Dec.{eqb}
use lib.ListN.{length, get_or, set, length-set}
use lib.Seq.{get_or-set_same, get_or-set_other}
use borrow.Author.Tests.{leb-true}
use Rattle.model.specs.Loops.{count_below, join_below, each_below}
use Rattle.model.specs.Memory.{tables_length, zeroed, table_start, table_of, with_table}
use Rattle.model.specs.Tables.{slot_place, slot_at, entry_size, append}
use Rattle.model.specs.Image.{im_depth, im_nodes, im_records, rec_node, rec_level, rec_digit, rec_neighbor, same_entry, rises_from, load_record, loaded_tables}
use Rattle.model.proofs.Loops.{each_leads, count_same, join_same}
use Rattle.model.proofs.Memory.{zeroed_length, zeroed_within, table_at, table_set}
use Rattle.model.proofs.Tables.{size_is}
use Rattle.model.proofs.RecordRules.{entry_key, key_le, SameEntry, of_same_entry, in_order, is_allowed}
use Rattle.model.proofs.LoadingIsSound.{GoodImage}
use Rattle.model.proofs.Counting.{count_more, join_skip}
use Rattle.model.proofs.Records.{place_record, filled_of, record_some, record_none}

-- the bytes of record r
abbrev pub record_bytes : List ℕ → ℕ → List ℕ
record_bytes im r = rec_node im r ∷ rec_level im r ∷ rec_digit im r ∷ rec_neighbor im r ∷ []

-- the number of its entry: the place of the entry's slot k is 4 times this, plus k
abbrev entry_of : List ℕ → ℕ → ℕ
entry_of im r = 128 * (rec_node im r - 1) + 16 * rec_level im r + rec_digit im r

-- the earlier records of its entry
abbrev earlier : List ℕ → ℕ → ℕ
earlier im r = count_below r (same_entry im r)

-- the fields of a place
node_of : (x i j k a : ℕ) → 1 ≤ x → i < 8 → j < 16 → k < 4 → 512 * (x - 1) + (64 * i + 4 * j + k) ≡ a → a / 512 + 1 ≡ x
node_of x i j k a l hi hj hk e = omega arith

level_of : (x i j k a : ℕ) → i < 8 → j < 16 → k < 4 → 512 * (x - 1) + (64 * i + 4 * j + k) ≡ a → a % 512 / 64 ≡ i
level_of x i j k a hi hj hk e = omega arith

digit_of : (x i j k a : ℕ) → i < 8 → j < 16 → k < 4 → 512 * (x - 1) + (64 * i + 4 * j + k) ≡ a → a % 64 / 4 ≡ j
digit_of x i j k a hi hj hk e = omega arith

module _ (im : List ℕ) (R : GoodImage im) where
  -- what the rules say of record r
  record RecordKept (r : ℕ) : Type 0 where
    first : 1 ≤ rec_node im r
    last : rec_node im r ≤ im_nodes im
    level : rec_level im r < 8
    digit : rec_digit im r < 16
    some : 1 ≤ rec_neighbor im r
    room : earlier im r < im_depth im

  kept : (r : ℕ) → r < im_records im → RecordKept r
  kept r h =
      let o = in_order im r (R.ordered r h) in
      record {
        first = (R.owners r h).0;
        last = (R.owners r h).1;
        level = omega (arith, o.level, R.range.digits_most);
        digit = omega (arith, o.digit, R.range.base_most);
        some = (R.neighbors r h).0;
        room = (is_allowed im r (R.allowed r h)).room;
      }

  -- the next record is of a later entry or of the same one
  follows : (q : ℕ) → suc q < im_records im → (entry_of im q < entry_of im (suc q)) ⊎ SameEntry im (suc q) q
  unfolding rises_from
  follows q h = go (ℕ_discrete (entry_of im q) (entry_of im (suc q)))
    where
      Q : RecordKept q
      Q = kept q (omega arith)

      K : RecordKept (suc q)
      K = kept (suc q) h

      one_less : suc q - 1 ≡ q
      one_less = omega arith

      rises : entry_key (rec_node im q) (rec_level im q) (rec_digit im q) ≤ entry_key (rec_node im (suc q)) (rec_level im (suc q)) (rec_digit im (suc q))
      rises =
          leb-true _ _
          (sym
          (key_le (rec_node im q) (rec_level im q) (rec_digit im q) (rec_node im (suc q)) (rec_level im (suc q)) (rec_digit im (suc q)) (omega (arith, Q.level))
          (omega (arith, Q.digit)) (omega (arith, K.level)) (omega (arith, K.digit)))
          ∙ subst (λ (p : ℕ). rises_from im p (suc q) ≡ true) one_less ((in_order im (suc q) (R.ordered (suc q) h)).rises (λ z. omega arith)))

      go : Dec (entry_of im q ≡ entry_of im (suc q)) → (entry_of im q < entry_of im (suc q)) ⊎ SameEntry im (suc q) q
      go (yes e) =
          inr
          (record {
            node = omega (arith, Q.first, Q.level, Q.digit, K.first, K.level, K.digit);
            level = omega (arith, Q.level, Q.digit, K.level, K.digit);
            digit = omega (arith, Q.level, Q.digit, K.level, K.digit);
          })
      go (no f) = inl (omega (arith, rises, Q.first, Q.level, Q.digit, K.first, K.level, K.digit))

  -- one more record of the same entry
  earlier_more : (q : ℕ) → SameEntry im (suc q) q → earlier im (suc q) ≡ earlier im q + 1
  unfolding same_entry
  earlier_more q S =
      count_more q (same_entry im (suc q)) (of_same_entry im (suc q) q S)
      ∙ ap (λ (n : ℕ). n + 1)
      (count_same q (same_entry im (suc q)) (same_entry im q)
      (λ p l.
      ap₂ (λ (x i : ℕ). eqb (rec_node im p) x && (eqb (rec_level im p) i && eqb (rec_digit im p) (rec_digit im (suc q)))) (sym S.node) (sym S.level)
      ∙ ap (λ (j : ℕ). eqb (rec_node im p) (rec_node im q) && (eqb (rec_level im p) (rec_level im q) && eqb (rec_digit im p) j)) (sym S.digit)))

  -- ---- the tables after r records

  -- the places from `end` on are empty, those before it are the first r records, and the last record's entry is filled up to there
  record ReadUpTo (r : ℕ) (t : List ℕ) : Type 0 where
    end : ℕ
    long : tables_length ≤ length t
    within : end ≤ 512 * im_nodes im
    zero : (p : ℕ) → end ≤ p → p < tables_length → get_or t p 0 ≡ 0
    joined : join_below end (place_record t) ≡ join_below r (record_bytes im)
    start : r ≡ 0 → end ≡ 0
    above : (q : ℕ) → r ≡ suc q → 4 * entry_of im q < end
    below : (q : ℕ) → r ≡ suc q → end ≤ 4 * entry_of im q + earlier im q + 1
    filled : (q : ℕ) → r ≡ suc q → (p : ℕ) → 4 * entry_of im q ≤ p → p < end → get_or t p 0 ≢ 0

  -- where record r goes
  record NextRecord (r : ℕ) (t : List ℕ) (end a : ℕ) : Type 0 where
    from : 4 * entry_of im r ≤ a
    behind : end ≤ a
    slot : a ≤ 4 * entry_of im r + earlier im r
    filled : (p : ℕ) → 4 * entry_of im r ≤ p → p < a → get_or t p 0 ≢ 0

  -- behind the last record of its entry, or first in a later entry
  goes : (r : ℕ) → r < im_records im → (t : List ℕ) (L : ReadUpTo r t) → (a : ℕ) × NextRecord r t L.end a
  goes zero h t L =
      let z : L.end ≡ 0 = L.start refl in
      (4 * entry_of im 0, record { from = omega arith; behind = omega arith; slot = omega arith; filled = λ p l g. absurd (omega arith) })
  goes (suc q) h t L = ⊎_elim later same (follows q h)
    where
      Q : RecordKept q
      Q = kept q (omega arith)

      later : entry_of im q < entry_of im (suc q) → (a : ℕ) × NextRecord (suc q) t L.end a
      later l = (
        4 * entry_of im (suc q),
        record {
          from = omega arith;
          behind = omega (arith, L.below q refl, Q.room, R.range.depth_most);
          slot = omega arith;
          filled = λ p l g. absurd (omega arith);
        },
      )

      same : SameEntry im (suc q) q → (a : ℕ) × NextRecord (suc q) t L.end a
      same S =
          let e : entry_of im q ≡ entry_of im (suc q) =
          ap₂ (λ (x i : ℕ). 128 * (x - 1) + 16 * i + rec_digit im q) S.node S.level
          ∙ ap (λ (j : ℕ). 128 * (rec_node im (suc q) - 1) + 16 * rec_level im (suc q) + j) S.digit in (
            L.end,
            record {
              from = omega (arith, L.above q refl);
              behind = omega arith;
              slot = omega (arith, L.below q refl, earlier_more q S);
              filled = λ p l g. L.filled q refl p (omega arith) g;
            },
          )

  module _ (r : ℕ) (h : r < im_records im) (t : List ℕ) (L : ReadUpTo r t) (a : ℕ) (G : NextRecord r t L.end a) where
    K : RecordKept r
    K = kept r h

    abbrev x : ℕ
    x = rec_node im r

    abbrev i : ℕ
    i = rec_level im r

    abbrev j : ℕ
    j = rec_digit im r

    abbrev u : ℕ
    u = rec_neighbor im r

    -- the slot
    abbrev k : ℕ
    k = a - 4 * entry_of im r

    k_room : k < im_depth im
    k_room = omega (arith, G.slot, K.room, G.from)

    k_most : k < 4
    k_most = omega (arith, k_room, R.range.depth_most)

    place : table_start x + slot_place i j k ≡ a
    place = omega (arith, G.from)

    inside : slot_place i j k < 512
    inside = omega (arith, K.level, K.digit, k_most)

    a_most : a < tables_length
    a_most = omega (arith, place, inside, K.first, K.last, R.few)

    fits : table_start x + 512 ≤ length t
    fits = omega (arith, K.first, K.last, R.few, L.long)

    slots : (m : ℕ) → m < 4 → slot_at (table_of t x) i j m ≡ get_or t (4 * entry_of im r + m) 0
    slots m l =
        let w : table_start x + slot_place i j m ≡ 4 * entry_of im r + m = omega arith in
        table_at t x fits (slot_place i j m) (omega (arith, K.level, K.digit)) ∙ ap (λ (p : ℕ). get_or t p 0) w

    size : k ≡ entry_size (im_depth im) (table_of t x) i j
    size =
        size_is (im_depth im) (table_of t x) i j k (omega (arith, k_room))
        (λ m l w. G.filled (4 * entry_of im r + m) (omega arith) (omega arith) (sym (slots m (omega (arith, k_most))) ∙ w))
        (λ l.
        let w : 4 * entry_of im r + k ≡ a = omega (arith, G.from) in
        slots k k_most ∙ ap (λ (p : ℕ). get_or t p 0) w ∙ L.zero a G.behind a_most)

    -- loading it stores one byte there
    loads : load_record im r t ≡ set t a u
    unfolding load_record append
    loads =
        ap (λ (k : ℕ). with_table t x (set (table_of t x) (slot_place i j k) u)) (sym size)
        ∙ table_set t x (slot_place i j k) u fits inside
        ∙ ap (λ (p : ℕ). set t p u) place

    t' : List ℕ
    t' = set t a u

    at_a : get_or t' a 0 ≡ u
    unfolding t'
    at_a = get_or-set_same t a u 0 (omega (arith, a_most, L.long))

    at_other : (p : ℕ) → p ≢ a → get_or t' p 0 ≡ get_or t p 0
    unfolding t'
    at_other p e = get_or-set_other t a p u 0 e

    before_a : join_below a (place_record t') ≡ join_below r (record_bytes im)
    unfolding place_record
    before_a =
        join_same a (place_record t') (place_record t)
        (λ p l.
        ap (λ (v : ℕ). cond (eqb v 0) [] ((p / 512 + 1) ∷ p % 512 / 64 ∷ p % 64 / 4 ∷ v ∷ [])) (at_other p (λ e. omega arith)))
        ∙ join_skip L.end a (place_record t) G.behind (λ p l g. record_none t p (L.zero p l (omega (arith, a_most))))
        ∙ L.joined

    here : place_record t' a ≡ record_bytes im r
    here =
        let hk : k < 4 = k_most in
        let hi : rec_level im r < 8 = K.level in
        let hj : rec_digit im r < 16 = K.digit in
        let ex : a / 512 + 1 ≡ x = node_of (rec_node im r) (rec_level im r) (rec_digit im r) k a K.first hi hj hk place in
        let ei : a % 512 / 64 ≡ i = level_of (rec_node im r) (rec_level im r) (rec_digit im r) k a hi hj hk place in
        let ej : a % 64 / 4 ≡ j = digit_of (rec_node im r) (rec_level im r) (rec_digit im r) k a hi hj hk place in
        record_some t' a (filled_of t' a (λ z. omega (arith, sym at_a ∙ z, K.some)))
        ∙ ap₂ (λ (x i : ℕ). x ∷ i ∷ a % 64 / 4 ∷ get_or t' a 0 ∷ []) ex ei
        ∙ ap₂ (λ (j u : ℕ). x ∷ i ∷ j ∷ u ∷ []) ej at_a

    -- the tables after it
    next : ReadUpTo (suc r) (load_record im r t)
    unfolding t' join_below
    next =
        rw loads
        (record {
          end = suc a;
          long = rw length-set L.long;
          within = omega (arith, place, inside, K.first, K.last);
          zero = λ p l g. at_other p (λ e. omega arith) ∙ L.zero p (omega (arith, G.behind)) g;
          joined = ap₂ ◌++◌ before_a here;
          start = λ e. absurd (omega arith);
          above = λ q e. let w : r ≡ q = omega arith in subst (λ (q : ℕ). 4 * entry_of im q < suc a) w (omega (arith, G.from));
          below = λ q e. let w : r ≡ q = omega arith in subst (λ (q : ℕ). suc a ≤ 4 * entry_of im q + earlier im q + 1) w (omega (arith, G.slot));
          filled =
              λ q e.
              let w : r ≡ q = omega arith in
              subst (λ (q : ℕ). (p : ℕ) → 4 * entry_of im q ≤ p → p < suc a → get_or (set t a u) p 0 ≢ 0) w (λ p l g. filled_on p l g (ℕ_discrete p a));
        })
      where
        filled_on : (p : ℕ) → 4 * entry_of im r ≤ p → p < suc a → Dec (p ≡ a) → get_or (set t a u) p 0 ≢ 0
        filled_on p l g (yes e) z = omega (arith, sym at_a ∙ ap (λ (p : ℕ). get_or (set t a u) p 0) (sym e) ∙ z, K.some)
        filled_on p l g (no e) z = G.filled p l (omega arith) (sym (at_other p e) ∙ z)

  -- ---- all records

  -- from empty tables on
  streamed : (t : List ℕ) → tables_length ≤ length t → ReadUpTo (im_records im) (each_below (im_records im) (load_record im) (zeroed tables_length t))
  unfolding join_below
  streamed t long =
      each_leads ReadUpTo (im_records im) (load_record im) (zeroed tables_length t)
      (record {
        end = 0;
        long = omega (arith, zeroed_length tables_length t long);
        within = omega arith;
        zero = λ p l h. zeroed_within tables_length t long p h;
        joined = refl;
        start = λ e. refl;
        above = λ q e. absurd (omega arith);
        below = λ q e. absurd (omega arith);
        filled = λ q e. absurd (omega arith);
      })
      (λ r t h L. let g = goes r h t L in next r h t L g.0 g.1)

  -- the records of the tables are those of the image
  pub records_back : (t : List ℕ) → tables_length ≤ length t
      → join_below (512 * im_nodes im) (place_record (loaded_tables t im)) ≡ join_below (im_records im) (record_bytes im)
  unfolding loaded_tables
  records_back t long =
      let L : ReadUpTo (im_records im) (each_below (im_records im) (load_record im) (zeroed tables_length t)) = streamed t long in
      let t₂ : List ℕ = each_below (im_records im) (load_record im) (zeroed tables_length t) in
      join_skip L.end (512 * im_nodes im) (place_record t₂) L.within
      (λ p l g. record_none t₂ p (L.zero p l (omega (arith, R.few, g))))
      ∙ L.joined
