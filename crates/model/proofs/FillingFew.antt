-- Filling lists few records: each addition fills an empty place, and of the places of a table at most 84 can be filled in a sound state and were empty in
-- another. In own entries slot 0 had its owner before, so of these there are 21 places below the last level; elsewhere the owner does not come, and each
-- other node at most once. Assumes nothing.
use Prim.Native.Nat.{ℕ, ◌+◌, ◌-◌, ◌*◌, ◌/◌, ◌%◌, ◌≤◌, ◌<◌}
use mathlib.Core.Path.{◌≡◌, refl, sym, ap, ap₂, ◌∙◌}
use mathlib.Core.Logic.{◌≢◌, ⊎_elim}
use mathlib.Core.Bool.{Bool, true, false, cond, not, ◌&&◌}
use mathlib.Core.List.{List, [], ◌∷◌}
use native.Mathlib.Decide.{ℕ_discrete}
use native.Mathlib.Omega.{arith}
use lib.Dec.{eqb}
use lib.ListN.{length, get_or, set, length-append}
use lib.Seq.{get_or-set_same, get_or-set_other}
use borrow.Author.Tests.{eqb-true, eq-eqb, ltb-true}
use Rattle.model.specs.Loops.{count_below}
use Rattle.model.specs.Ids.{digit_of}
use Rattle.model.specs.Memory.{digits, depth, node_count, id_of, table_start, table_of}
use Rattle.model.specs.Tables.{slot_place, slot_at, entry_size, append}
use Rattle.model.specs.Sound.{place_used}
use Rattle.model.specs.Fill.{Filling, lowest_absent, short_by, added, filling}
use Rattle.model.proofs.Bools.{and_left, and_right, true_or_false}
use Rattle.model.proofs.Loops.{count_none}
use Rattle.model.proofs.Ids.{qualified_digit}
use Rattle.model.proofs.Counting.{count_most, count_blocks}
use Rattle.model.proofs.Sums.{bit, bits, count_sum, sum_less}
use Rattle.model.proofs.Memory.{table_at, table_set}
use Rattle.model.proofs.Tables.{size_empty}
use Rattle.model.proofs.Status.{IsNode}
use Rattle.model.proofs.Sound.{Sound, used_place, table_fits}
use Rattle.model.proofs.Records.{filled_at, place_at, filled_of}
use Rattle.model.proofs.RecordsAreFew.{place_of, same_place, nonzero, slot_of, own, own_digit, twice, node_most}
use Rattle.model.proofs.Filling.{Steady, EntryOf, lowest_node, short_room, filling_fills}
use Rattle.model.proofs.FillingRecords.{steady_keep}

-- place p is filled in t' and was empty in t
abbrev new_at : List ℕ → List ℕ → ℕ → Bool
new_at t t' p = filled_at t' p && eqb (get_or t p 0) 0

-- ---- each addition fills a place

-- a place more is filled
count_new : (t u : List ℕ) (n p y : ℕ) → p < n → p < length u → get_or u p 0 ≡ 0 → get_or t p 0 ≡ 0 → y ≢ 0
    → count_below n (new_at t u) + 1 ≡ count_below n (new_at t (set u p y))
count_new t u n p y l h e e₀ some =
    ap (λ (c : ℕ). c + 1) (count_sum n (new_at t u))
    ∙ sum_less n (bits (new_at t u)) (bits (new_at t (set u p y))) p l here
    (λ m g ne. ap (λ (v : ℕ). bit (not (eqb v 0) && eqb (get_or t m 0) 0)) (sym (get_or-set_other u p m y 0 ne)))
    ∙ sym (count_sum n (new_at t (set u p y)))
  where
    here : bit (new_at t u p) + 1 ≡ bit (new_at t (set u p y) p)
    here =
        ap (λ (b : Bool). bit (not b && eqb (get_or t p 0) 0) + 1) (eq-eqb (get_or u p 0) 0 e)
        ∙ sym (ap₂ (λ (a b : Bool). bit (a && b)) (filled_of (set u p y) p (λ q. some (sym (get_or-set_same u p y 0 h) ∙ q))) (eq-eqb (get_or t p 0) 0 e₀))

none_new : (t : List ℕ) (n : ℕ) → count_below n (new_at t t) ≡ 0
none_new t n = count_none n (new_at t t) (λ k l. go (eqb (get_or t k 0) 0))
  where
    go : (b : Bool) → (not b && b) ≡ false
    go true = refl
    go false = refl

-- no place of t has become empty, and those that have been filled are listed
record News (s t : List ℕ) (f : Filling) : Type 0 where
  kept : (p : ℕ) → get_or f.tables p 0 ≡ 0 → get_or t p 0 ≡ 0
  counted : length f.list ≡ 4 * count_below (512 * node_count s) (new_at t f.tables)

news_more : (s t : List ℕ) (f : Filling) (w : Steady s f.tables) (x i j : ℕ) → EntryOf s x i j → 1 ≤ short_by s f.tables x i j → News s t f
    → News s t (added s x i j (lowest_absent s f.tables x i j) f)
unfolding added append
news_more s t f w x i j e short c =
    rw (table_set f.tables x q y fits in_table)
    (record {
      kept = λ m z. go m z (ℕ_discrete m p);
      counted = length-append f.list (x ∷ i ∷ j ∷ y ∷ [])
          ∙ omega (
            arith,
            c.counted,
            count_new t f.tables (512 * node_count s) p y (omega (arith, in_table, e.node.low, e.node.high))
                (omega (arith, in_table, fits)) empty (c.kept p empty) some,
          );
    })
  where
    T : List ℕ
    T = table_of f.tables x

    y : ℕ
    y = lowest_absent s f.tables x i j

    -- the place in the table, and in the memory
    q : ℕ
    q = slot_place i j (entry_size (depth s) T i j)

    p : ℕ
    p = table_start x + q

    room : entry_size (depth s) T i j < depth s
    room = short_room s f.tables w x i j e short

    in_table : q < 512
    in_table = omega (arith, room, e.level, e.digit, w.sound.settings.digits_most, w.sound.settings.base_most, w.sound.settings.depth_most)

    fits : table_start x + 512 ≤ length f.tables
    fits = table_fits s f.tables w.sound x e.node

    empty : get_or f.tables p 0 ≡ 0
    empty = sym (table_at f.tables x fits q in_table) ∙ size_empty (depth s) T i j room

    some : y ≢ 0
    some z = omega (arith, z, (lowest_node s f.tables w x i j e short).low)

    go : (m : ℕ) → get_or (set f.tables p y) m 0 ≡ 0 → Dec (m ≡ p) → get_or t m 0 ≡ 0
    go m z (yes o) =
        absurd (some (sym (get_or-set_same f.tables p y 0 (omega (arith, in_table, fits))) ∙ ap (λ (m : ℕ). get_or (set f.tables p y) m 0) (sym o) ∙ z))
    go m z (no o) = c.kept m (sym (get_or-set_other f.tables p m y 0 o) ∙ z)

-- ---- few places

module _ (s t t' : List ℕ) (S : Sound s t) (S' : Sound s t') (y : ℕ) (h : y < node_count s) where
  is_node : IsNode s (y + 1)
  is_node = record { low = omega arith; high = omega (arith, h) }

  abbrev T : List ℕ
  T = table_of t' (y + 1)

  abbrev id : ℕ
  id = id_of s (y + 1)

  abbrev new : ℕ → Bool
  new q = new_at t t' (512 * y + q)

  filled : (q : ℕ) → new q ≡ true → filled_at t' (512 * y + q) ≡ true
  filled q e = and_left _ _ e

  -- the place is of a level below d
  level_used : (q : ℕ) → q < 512 → new q ≡ true → q / 64 < digits s
  level_used q l e =
      ⊎_elim (λ u. (used_place s q u).0) (λ u. absurd (nonzero s t' S' y h q l (filled q e) ((S'.tables (y + 1) is_node).unused q l u)))
      (true_or_false (place_used s q))

  -- in an own entry it is not the first, which had the owner before
  not_first : (q : ℕ) → q < 512 → new q ≡ true → q % 64 / 4 ≡ digit_of id (q / 64) → q % 4 ≢ 0
  not_first q l e o z =
      let w : slot_place (q / 64) (digit_of (id_of s (y + 1)) (q / 64)) 0 ≡ q = omega (arith, o, z) in
      let v : get_or (table_of t (y + 1)) q 0 ≡ y + 1 =
      ap (λ (p : ℕ). get_or (table_of t (y + 1)) p 0) (sym w) ∙ (S.tables (y + 1) is_node).owner (q / 64) (level_used q l e) in
      let empty = eqb-true (get_or t (512 * y + q) 0) 0 (and_right (filled_at t' (512 * y + q)) _ e) in
      omega (arith, v, place_at t y (omega (arith, h, S.few, S.long.tables)) q l, empty)

  -- the owner does not come
  not_owner : (q : ℕ) → q < 512 → new q ≡ true → get_or T q 0 ≢ y + 1
  not_owner q l e v =
      let Q = slot_of s t' S' y h q l (filled q e) in
      let here : slot_at T (q / 64) (q % 64 / 4) (q % 4) ≡ y + 1 = ap (λ (p : ℕ). get_or T p 0) (place_of q) ∙ v in
      let o : q % 64 / 4 ≡ digit_of id (q / 64) =
      sym (qualified_digit _ _ (q / 64) (q % 64 / 4) Q.qual) ∙ ap (λ (u : ℕ). digit_of (id_of s u) (q / 64)) here in
      let first : slot_at T (q / 64) (q % 64 / 4) 0 ≡ y + 1 =
      ap (λ (j : ℕ). slot_at T (q / 64) j 0) o ∙ (S'.tables (y + 1) is_node).owner (q / 64) (level_used q l e) in
      Q.fresh 0 (omega (arith, not_first q l e o)) (first ∙ sym here)

  -- a number below 84 for each: of an own entry below the last of eight levels by level and slot, of another by the node, counted from the owner on
  abbrev code : ℕ → ℕ
  code q = cond (own s t' S' y h q) (62 + 3 * (q / 64) + q % 4) ((get_or T q 0 + 126 - y) % 64)

  code_below : (q : ℕ) → q < 512 → new q ≡ true → code q < 84
  code_below q l e = go (own s t' S' y h q) refl
    where
      go : (b : Bool) → own s t' S' y h q ≡ b → cond b (62 + 3 * (q / 64) + q % 4) ((get_or T q 0 + 126 - y) % 64) < 84
      go true o = omega (arith, ltb-true (q / 64) 7 (and_left _ _ o))
      go false o = omega arith

  node_code : (q : ℕ) → q < 512 → new q ≡ true → (get_or T q 0 + 126 - y) % 64 < 63
  node_code q l e = omega (arith, node_most s t' S' y h q l (filled q e), nonzero s t' S' y h q l (filled q e), not_owner q l e, h, S.few)

  code_differs : (p q : ℕ) → p < 512 → q < 512 → new p ≡ true → new q ≡ true → code p ≡ code q → p ≡ q
  code_differs p q l g np nq e = go (own s t' S' y h p) (own s t' S' y h q) refl refl e
    where
      slot : (p : ℕ) → p < 512 → new p ≡ true → own s t' S' y h p ≡ true → p % 4 ≢ 0
      slot p l e o = not_first p l e (own_digit s t' S' y h p o)

      go : (a b : Bool) → own s t' S' y h p ≡ a → own s t' S' y h q ≡ b
          → cond a (62 + 3 * (p / 64) + p % 4) ((get_or T p 0 + 126 - y) % 64) ≡ cond b (62 + 3 * (q / 64) + q % 4) ((get_or T q 0 + 126 - y) % 64) → p ≡ q
      go true true op oq w =
          let sp = slot p l np op in
          let sq = slot q g nq oq in
          let ei : p / 64 ≡ q / 64 = omega (arith, sp, sq) in
          let ek : p % 4 ≡ q % 4 = omega (arith, ei) in
          same_place p q ei (own_digit s t' S' y h p op ∙ ap (digit_of id) ei ∙ sym (own_digit s t' S' y h q oq)) ek
      go true false op oq w = absurd (omega (arith, slot p l np op, node_code q g nq))
      go false true op oq w = absurd (omega (arith, slot q g nq oq, node_code p l np))
      go false false op oq w =
          let zp = nonzero s t' S' y h p l (filled p np) in
          let zq = nonzero s t' S' y h q g (filled q nq) in
          let v : get_or T p 0 ≡ get_or T q 0 =
          omega (arith, zp, zq, node_most s t' S' y h p l (filled p np), node_most s t' S' y h q g (filled q nq), h, S.few) in
          let below : p < q → ⊥ = λ less. twice s t' S' y h p q less g (filled p np) (filled q nq) op v in
          let above : q < p → ⊥ = λ more. twice s t' S' y h q p more l (filled q nq) (filled p np) oq (sym v) in
          omega (arith, below, above)

  few_here : count_below 512 new ≤ 84
  few_here = count_most 512 84 new code code_below code_differs

-- at most 84 records a node
pub filling_few : (s t : List ℕ) → Steady s t → length (filling s t).list ≤ 21504
filling_few s t w =
    let c : News s t (filling s t) =
    steady_keep s (News s t) (λ x i j f e w short. news_more s t f w x i j e short) t w
    (record { kept = λ p z. z; counted = omega (arith, none_new t (512 * node_count s)) }) in
    let few = count_blocks 512 (node_count s) 84 (new_at t (filling s t).tables)
    (few_here s t (filling s t).tables w.sound (filling_fills s t w).steady.sound) in
    omega (arith, c.counted, few, w.sound.few)
