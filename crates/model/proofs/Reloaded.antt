-- What an image that pictures a state gives when it is read: the state's words, with zero for its counts, and its tables; past the fixed lengths the
-- memory that was there. Assumes nothing.
use Prim.Native.Nat.{ℕ, zero, suc, ◌+◌, ◌-◌, ◌*◌, ◌/◌, ◌%◌, ◌≤◌, ◌<◌}
use mathlib.Core.Path.{◌≡◌, refl, sym, ap, ap₂, subst, ◌∙◌}
use mathlib.Core.Logic.{◌≢◌, ◌⊎◌, inl, inr, ⊎_elim}
use mathlib.Core.Bool.{Bool, true, false}
use mathlib.Core.List.{List}
use native.Mathlib.Decide.{dec_lt, ℕ_discrete}
use native.Mathlib.Omega.{arith}
use lib.ListN.{length, get_or, set}
use borrow.Author.Tests.{eqb-true, not-false}
use Rattle.model.specs.Loops.{count_below, each_below}
use Rattle.model.specs.Memory.{state_length, tables_length, depth, node_count, node_of, status_of, zeroed, table_start, table_of, with_table, is_in_system}
use Rattle.model.specs.Tables.{slot_place, slot_at, entry_size, append}
use Rattle.model.specs.Image.{rec_node, rec_level, rec_digit, rec_neighbor, loaded_ids, load_record, loaded_tables, without_counts}
use Rattle.model.proofs.Bools.{true_or_false}
use Rattle.model.proofs.Loops.{each_step}
use Rattle.model.proofs.Memory.{zeroed_length, zeroed_within, table_set}
use Rattle.model.proofs.Tables.{GapFree, size_is, size_filled, gap_rest}
use Rattle.model.proofs.LearningKeepsRules.{entries_of, gap_free}
use Rattle.model.proofs.Status.{IsNode, InSystemOk}
use Rattle.model.proofs.Sound.{Sound}
use Rattle.model.proofs.WithoutCounts.{IsCount, without_length, without_kept, without_zero}
use Rattle.model.proofs.Counting.{count_more, count_no_more}
use Rattle.model.proofs.Records.{filled_at, filled_nonzero}
use Rattle.model.proofs.Sections.{Pictures}
use Rattle.model.proofs.WrittenIsTaken.{SlotIn, slot_in, slot_place_lem}
use Rattle.model.proofs.IdsReloaded.{in_system_ok, ids_long, ids_past, ids_apart, ids_back, ids_else}
use Rattle.model.proofs.Over.{over, over_length, over_low, over_high, over_is, over_set, over_same, zeroed_past}

-- ---- the tables

module _ (im s t : List ℕ) (S : Sound s t) (P : Pictures im s t) (t' : List ℕ) (room : tables_length ≤ length t') where
  abbrev N : ℕ
  N = 512 * node_count s

  abbrev filled : ℕ → Bool
  filled = filled_at t

  z : List ℕ
  z = zeroed tables_length t'

  z_long : length z ≡ length t'
  unfolding z
  z_long = zeroed_length tables_length t' room

  z_zero : (p : ℕ) → p < tables_length → get_or z p 0 ≡ 0
  unfolding z
  z_zero p h = zeroed_within tables_length t' room p h

  N_most : N ≤ tables_length
  N_most = omega (arith, S.few)

  -- the place's record is put where it stood
  module _ (p : ℕ) (l : p < N) (e : filled p ≡ true) where
    fa : p < length t
    fa = omega (arith, N_most, S.long.tables)

    fb : p < length z
    fb = omega (arith, N_most, z_long)

    u : List ℕ
    u = over p t z

    u_long : length u ≡ length z
    unfolding u
    u_long = over_length p t z (omega (arith, fa)) (omega (arith, fb))

    slot : SlotIn s t p
    slot = slot_in s t S p l e

    abbrev x : ℕ
    x = p / 512 + 1

    abbrev i : ℕ
    i = p % 512 / 64

    abbrev j : ℕ
    j = p % 64 / 4

    table_fits : 512 * (p / 512) + 512 ≤ length u
    table_fits = omega (arith, u_long, z_long, S.few, room)

    slots : (k : ℕ) → k < 4 → slot_at (table_of u x) i j k ≡ get_or u (4 * (p / 4) + k) 0
    slots = slot_place_lem u p table_fits

    -- in the state the slots before p's are filled
    filled_before : (m : ℕ) → m < p % 4 → get_or t (4 * (p / 4) + m) 0 ≢ 0
    filled_before m h w =
        let g = gap_free s x (table_of t x) (entries_of s x (table_of t x) (S.tables x slot.owner)) i j slot.level slot.digit in
        size_filled (depth s) (table_of t x) i j m (less g (dec_lt m (entry_size (depth s) (table_of t x) i j))) (slot.at m (omega arith) ∙ w)
      where
        less : GapFree (depth s) (table_of t x) i j → Dec (m < entry_size (depth s) (table_of t x) i j) → m < entry_size (depth s) (table_of t x) i j
        less g (yes q) = q
        less g (no q) =
            absurd
            (filled_nonzero t p e
            (sym slot.here
            ∙ gap_rest (depth s) (table_of t x) i j g (p % 4) (omega arith) slot.slot))

    size : p % 4 ≡ entry_size (depth s) (table_of u x) i j
    unfolding u
    size =
        size_is (depth s) (table_of u x) i j (p % 4) (omega (arith, slot.slot))
        (λ m h w.
        filled_before m h
        (sym (over_low p t z (omega (arith, fa)) (omega (arith, fb)) (4 * (p / 4) + m) (omega arith)) ∙ sym (slots m (omega arith)) ∙ w))
        (λ h.
        slots (p % 4) (omega arith)
        ∙ over_high p t z (omega (arith, fa)) (omega (arith, fb)) (4 * (p / 4) + p % 4) (omega arith)
        ∙ z_zero (4 * (p / 4) + p % 4) (omega (arith, N_most)))

    loads : load_record im (count_below p filled) (over p t z) ≡ over (suc p) t z
    unfolding load_record append u
    loads =
        let r : ℕ = count_below p filled in
        let v : ℕ = get_or t p 0 in
        let ex : rec_node im r ≡ x = P.bytes p 0 l e (omega arith) in
        let ei : rec_level im r ≡ i = P.bytes p 1 l e (omega arith) in
        let ej : rec_digit im r ≡ j = P.bytes p 2 l e (omega arith) in
        let ev : rec_neighbor im r ≡ v = P.bytes p 3 l e (omega arith) in
        let w : table_start x + slot_place i j (p % 4) ≡ p = omega arith in
        ap₂ (λ (x K : ℕ). with_table u x (append K (table_of u x) (rec_level im r) (rec_digit im r) (rec_neighbor im r))) ex P.depth
        ∙ ap₂ (λ (i j : ℕ). with_table u x (append (depth s) (table_of u x) i j (rec_neighbor im r))) ei ej
        ∙ ap₂ (λ (v k : ℕ). with_table u x (set (table_of u x) (slot_place i j k) v)) ev (sym size)
        ∙ table_set u x (slot_place i j (p % 4)) v (omega (arith, table_fits)) (omega arith)
        ∙ ap (λ (p : ℕ). set u p v) w
        ∙ over_set p t z fa fb

  -- one place more, filled or not
  step : (p : ℕ) → p < N → (filled p ≡ true) ⊎ (filled p ≡ false)
      → over p t z ≡ each_below (count_below p filled) (load_record im) z → over (suc p) t z ≡ each_below (count_below (suc p) filled) (load_record im) z
  step p l (inl e) ih =
      each_step (count_below p filled) (load_record im) z (over p t z) (over (suc p) t z) ih (sym (loads p l e))
      ∙ ap (λ (n : ℕ). each_below n (load_record im) z) (sym (count_more p filled e))
  step p l (inr f) ih =
      let v : get_or t p 0 ≡ 0 = eqb-true _ 0 (not-false _ f) in
      sym (over_same p t z (omega (arith, N_most, S.long.tables)) (omega (arith, N_most, z_long)) (v ∙ sym (z_zero p (omega (arith, N_most)))))
      ∙ ih
      ∙ ap (λ (n : ℕ). each_below n (load_record im) z) (sym (count_no_more p filled f))

  places : (p : ℕ) → p ≤ N → over p t z ≡ each_below (count_below p filled) (load_record im) z
  unfolding count_below each_below
  places zero h = refl
  places (suc p) h = step p h (true_or_false (filled p)) (places p (omega arith))

  -- the tables are the state's
  pub tables_back : loaded_tables t' im ≡ over tables_length t t'
  unfolding loaded_tables z
  tables_back =
      ap (λ (n : ℕ). each_below n (load_record im) z) P.count
      ∙ sym (places N (omega arith))
      ∙ over_is tables_length t t' S.long.tables room (over N t z) (over_length N t z ft fz ∙ z_long) (λ p h. low p h (dec_lt p N))
      (λ p h. over_high N t z ft fz p (omega (arith, N_most)) ∙ zeroed_past tables_length t' p h)
    where
      ft : N ≤ length t
      ft = omega (arith, N_most, S.long.tables)

      fz : N ≤ length z
      fz = omega (arith, N_most, z_long)

      low : (p : ℕ) → p < tables_length → Dec (p < N) → get_or (over N t z) p 0 ≡ get_or t p 0
      low p h (yes l) = over_low N t z ft fz p l
      low p h (no g) =
          let l : N ≤ p = omega arith in
          over_high N t z ft fz p l ∙ z_zero p h ∙ sym (S.tables_rest p l h)

-- ---- the words

-- a node in system has nothing but its id and its counts
module _ (s t : List ℕ) (S : Sound s t) (in_system : (x : ℕ) → IsNode s x → is_in_system s x ≡ true) (x : ℕ) (n : IsNode s x) where
  status_zero : status_of s x ≡ 0
  status_zero = eqb-true _ 0 (in_system x n)

  rests : InSystemOk (node_of s x)
  rests = in_system_ok s x (S.statuses x n) status_zero

  rest_zero : (c : ℕ) → 2 ≤ c → c < 6 → get_or s (8 * x + c) 0 ≡ 0
  rest_zero zero l h = absurd (omega arith)
  rest_zero (suc zero) l h = absurd (omega arith)
  rest_zero (suc (suc zero)) l h = rests.level
  rest_zero (suc (suc (suc zero))) l h = rests.target
  rest_zero (suc (suc (suc (suc zero)))) l h = rests.pending
  rest_zero (suc (suc (suc (suc (suc zero))))) l h = rests.notified
  rest_zero (suc (suc (suc (suc (suc (suc c)))))) l h = absurd (omega arith)

  -- and without its counts all the rest is zero
  words_zero : (c : ℕ) → 1 ≤ c → c < 8 → get_or (without_counts s) (8 * x + c) 0 ≡ 0
  words_zero c l h = go (ℕ_discrete c 1) (dec_lt c 6)
    where
      kept : c < 6 → get_or (without_counts s) (8 * x + c) 0 ≡ get_or s (8 * x + c) 0
      kept g = without_kept s (8 * x + c) (λ k m i. ⊎_elim (λ q. omega arith) (λ q. omega arith) i)

      is_count : 6 ≤ c → IsCount (x - 1) (8 * x + c)
      is_count g = which (ℕ_discrete c 6)
        where
          which : Dec (c ≡ 6) → IsCount (x - 1) (8 * x + c)
          which (yes e) = inl (omega (arith, n.low))
          which (no e) = inr (omega (arith, n.low))

      go : Dec (c ≡ 1) → Dec (c < 6) → get_or (without_counts s) (8 * x + c) 0 ≡ 0
      go (yes e) d = kept (omega arith) ∙ ap (λ (c : ℕ). get_or s (8 * x + c) 0) e ∙ status_zero
      go (no f) (yes g) = kept g ∙ rest_zero c (omega arith) g
      go (no f) (no g) =
          without_zero s (x - 1) (8 * x + c) (omega (arith, n.low, n.high)) (is_count (omega arith)) (omega (arith, n.high, S.few, S.long.state))

module _ (im s t : List ℕ) (S : Sound s t) (P : Pictures im s t) (in_system : (x : ℕ) → IsNode s x → is_in_system s x ≡ true)
    (s' : List ℕ) (room : state_length ≤ length s') where
  -- the words that are no counts are the state's
  kept : (p : ℕ) → (p < 8) ⊎ (8 * node_count s + 8 ≤ p) ⊎ (p % 8 ≡ 0) → get_or (without_counts s) p 0 ≡ get_or s p 0
  kept p o = without_kept s p (λ k m i. ⊎_elim (λ q. at k m 6 (omega arith) (omega arith) q o) (λ q. at k m 7 (omega arith) (omega arith) q o) i)
    where
      at : (k : ℕ) → k < node_count s → (c : ℕ) → 6 ≤ c → c < 8 → p ≡ 8 * (k + 1) + c → (p < 8) ⊎ (8 * node_count s + 8 ≤ p) ⊎ (p % 8 ≡ 0) → ⊥
      at k m c a b q (inl g) = omega arith
      at k m c a b q (inr (inl g)) = omega arith
      at k m c a b q (inr (inr g)) = omega arith

  low : (p : ℕ) → p < state_length → get_or (loaded_ids s' im) p 0 ≡ get_or (without_counts s) p 0
  low p h = go (dec_lt p 8) (dec_lt p (8 * node_count s + 8)) (ℕ_discrete (p % 8) 0)
    where
      go : Dec (p < 8) → Dec (p < 8 * node_count s + 8) → Dec (p % 8 ≡ 0) → get_or (loaded_ids s' im) p 0 ≡ get_or (without_counts s) p 0
      go (yes g) d e = ids_apart im s t S P s' room p h (inl g) ∙ sym (kept p (inl g))
      go (no g) (no f) e =
          let l : 8 * node_count s + 8 ≤ p = omega arith in
          ids_apart im s t S P s' room p h (inr l) ∙ sym (kept p (inr (inl l)))
      go (no g) (yes f) (yes e) =
          let n : IsNode s (p / 8) = record { low = omega arith; high = omega arith } in
          let w : 8 * (p / 8) ≡ p = omega arith in
          subst (λ (p : ℕ). get_or (loaded_ids s' im) p 0 ≡ get_or s p 0) w (ids_back im s t S P s' room (p / 8) n) ∙ sym (kept p (inr (inr e)))
      go (no g) (yes f) (no e) =
          let n : IsNode s (p / 8) = record { low = omega arith; high = omega arith } in
          let w : 8 * (p / 8) + p % 8 ≡ p = omega arith in
          subst (λ (p : ℕ). get_or (loaded_ids s' im) p 0 ≡ get_or (without_counts s) p 0) w
          (ids_else im s t S P s' room (p / 8) n (p % 8) (omega arith) (omega arith)
          ∙ sym (words_zero s t S in_system (p / 8) n (p % 8) (omega arith) (omega arith)))

  -- they are the state's but for the counts
  pub words_back : loaded_ids s' im ≡ over state_length (without_counts s) s'
  words_back =
      over_is state_length (without_counts s) s' (omega (arith, without_length s, S.long.state)) room (loaded_ids s' im) (ids_long im s' room) low
      (ids_past im s' room (omega (arith, P.nodes, S.few)))
