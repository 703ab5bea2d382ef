-- The records of a sound state by the places of its table memory: one for each filled place, in rising order. Assumes nothing.
use Prim.Native.Nat.{ℕ, zero, suc, ◌+◌, ◌*◌, ◌/◌, ◌%◌, ◌≤◌, ◌<◌}
use mathlib.Core.Path.{◌≡◌, refl, sym, ap, ap₂, ◌∙◌}
use mathlib.Core.Bool.{Bool, true, false, cond, not}
use mathlib.Core.List.{List, [], ◌∷◌}
use native.Mathlib.Omega.{arith}
use lib.Dec.{eqb}
use lib.ListN.{length, get_or, length-append}
use borrow.Author.Tests.{eqb-false, eq-eqb, ne_eqb, not-true}
use Rattle.model.specs.Loops.{count_below, join_below, node}
use Rattle.model.specs.Memory.{base, digits, depth, node_count, table_start, table_of}
use Rattle.model.specs.Tables.{slot_place, slot_at}
use Rattle.model.specs.Sound.{place_used}
use Rattle.model.specs.Image.{slot_record, entry_records, level_records, node_records, all_records}
use Rattle.model.proofs.Bools.{back_false}
use Rattle.model.proofs.Loops.{join_same}
use Rattle.model.proofs.Memory.{table_at}
use Rattle.model.proofs.Status.{IsNode}
use Rattle.model.proofs.Sound.{Sound, used_place}
use Rattle.model.proofs.Counting.{join_skip, join_blocks, join_at}

-- place p of the table memory is filled
abbrev pub filled_at : List ℕ → ℕ → Bool
filled_at t p = not (eqb (get_or t p 0) 0)

-- node, level, digit and neighbour of a filled place
abbrev pub fields_at : List ℕ → ℕ → List ℕ
fields_at t p = (p / 512 + 1) ∷ p % 512 / 64 ∷ p % 64 / 4 ∷ get_or t p 0 ∷ []

-- its record
unfoldable pub place_record : List ℕ → ℕ → List ℕ
place_record t p = cond (eqb (get_or t p 0) 0) [] (fields_at t p)

-- place q of a node's table in the table memory
pub place_at : (t : List ℕ) (y : ℕ) → 512 * y + 512 ≤ length t → (q : ℕ) → q < 512 → get_or (table_of t (y + 1)) q 0 ≡ get_or t (512 * y + q) 0
place_at t y fits q h =
    let f : table_start (y + 1) + 512 ≤ length t = omega arith in
    let e : table_start (y + 1) + q ≡ 512 * y + q = omega arith in
    table_at t (y + 1) f q h ∙ ap (λ (p : ℕ). get_or t p 0) e

-- ---- the records of the book are those of the places

module _ (s t : List ℕ) (S : Sound s t) (y : ℕ) (h : y < node_count s) where
  is_node : IsNode s (y + 1)
  is_node = record { low = omega arith; high = omega arith }

  abbrev T : List ℕ
  T = table_of t (y + 1)

  at : (q : ℕ) → q < 512 → get_or T q 0 ≡ get_or t (512 * y + q) 0
  at = place_at t y (omega (arith, S.few, S.long.tables))

  abbrev slot_here : ℕ → ℕ → ℕ → List ℕ
  slot_here i j k = slot_record T (y + 1) i j k

  -- a slot is a place
  slot : (i j k : ℕ) → i < 8 → j < 16 → k < 4 → slot_here i j k ≡ place_record t (512 * y + (64 * i + (4 * j + k)))
  unfolding slot_record place_record
  slot i j k hi hj hk =
      let p : ℕ = 512 * y + (64 * i + (4 * j + k)) in
      let e : slot_place i j k ≡ 64 * i + (4 * j + k) = omega arith in
      let v : slot_at T i j k ≡ get_or t (512 * y + (64 * i + (4 * j + k))) 0 =
      ap (λ (q : ℕ). get_or T q 0) e ∙ at (64 * i + (4 * j + k)) (omega arith) in
      let ex : y + 1 ≡ (512 * y + (64 * i + (4 * j + k))) / 512 + 1 = omega arith in
      let ei : i ≡ (512 * y + (64 * i + (4 * j + k))) % 512 / 64 = omega arith in
      let ej : j ≡ (512 * y + (64 * i + (4 * j + k))) % 64 / 4 = omega arith in
      ap₂ (λ (v x : ℕ). cond (eqb v 0) [] (x ∷ i ∷ j ∷ v ∷ [])) v ex
      ∙ ap₂ (λ (i j : ℕ). cond (eqb (get_or t p 0) 0) [] ((p / 512 + 1) ∷ i ∷ j ∷ get_or t p 0 ∷ [])) ei ej

  -- a slot that is not below the settings is empty
  unused : (i j k : ℕ) → i < 8 → j < 16 → k < 4 → (i < digits s → j < base s → k < depth s → ⊥) → slot_here i j k ≡ []
  unfolding slot_record
  unused i j k hi hj hk no_use =
      let p : ℕ = slot_place i j k in
      let ei : p / 64 ≡ i = omega arith in
      let ej : p % 64 / 4 ≡ j = omega arith in
      let ek : p % 4 ≡ k = omega arith in
      let f : place_used s p ≡ false =
      back_false (place_used s p) false
      (λ u.
      let below = used_place s p u in
      absurd (no_use (omega (arith, below.0)) (omega (arith, below.1)) (omega (arith, below.2)))) refl in
      ap (λ (v : ℕ). cond (eqb v 0) [] ((y + 1) ∷ i ∷ j ∷ v ∷ [])) ((S.tables (y + 1) is_node).unused p (omega arith) f)

  -- so an entry may as well have four slots, a level 16 entries and a table eight levels
  entry4 : (i j : ℕ) → i < digits s → j < base s → join_below 4 (slot_here i j) ≡ entry_records s T (y + 1) i j
  unfolding entry_records
  entry4 i j hi hj =
      join_skip (depth s) 4 (slot_here i j) S.settings.depth_most
      (λ k l g. unused i j k (omega (arith, S.settings.digits_most)) (omega (arith, S.settings.base_most)) g (λ a b c. omega arith))

  empty4 : (i j : ℕ) → i < 8 → j < 16 → (i < digits s → j < base s → ⊥) → join_below 4 (slot_here i j) ≡ []
  unfolding join_below
  empty4 i j hi hj no_use = join_skip 0 4 (slot_here i j) (omega arith) (λ k l g. unused i j k hi hj g (λ a b c. no_use a b))

  abbrev level16 : ℕ → List ℕ
  level16 i = join_below 16 (λ j. join_below 4 (slot_here i j))

  level_is : (i : ℕ) → i < digits s → level16 i ≡ level_records s T (y + 1) i
  unfolding level_records
  level_is i hi =
      join_skip (base s) 16 (λ j. join_below 4 (slot_here i j)) S.settings.base_most
      (λ j l g. empty4 i j (omega (arith, S.settings.digits_most)) g (λ a b. omega arith))
      ∙ join_same (base s) (λ j. join_below 4 (slot_here i j)) (entry_records s T (y + 1) i) (λ j l. entry4 i j hi l)

  level_none : (i : ℕ) → digits s ≤ i → i < 8 → level16 i ≡ []
  unfolding join_below
  level_none i l hi =
      join_skip 0 16 (λ j. join_below 4 (slot_here i j)) (omega arith) (λ j a g. empty4 i j hi g (λ a b. omega arith))

  table_is : join_below 8 level16 ≡ node_records s t (y + 1)
  unfolding node_records
  table_is =
      join_skip (digits s) 8 level16 S.settings.digits_most (λ i l g. level_none i l g)
      ∙ join_same (digits s) level16 (level_records s T (y + 1)) (λ i l. level_is i l)

  abbrev g : ℕ → List ℕ
  g q = place_record t (512 * y + q)

  -- 512 places a node
  node_is : node_records s t (y + 1) ≡ join_below 512 g
  node_is =
      sym table_is
      ∙ join_same 8 level16 (λ i. join_below 64 (λ q. g (64 * i + q)))
      (λ i hi.
      join_same 16 (λ j. join_below 4 (slot_here i j)) (λ j. join_below 4 (λ k. g (64 * i + (4 * j + k))))
      (λ j hj.
      join_same 4 (slot_here i j) (λ k. g (64 * i + (4 * j + k))) (λ k hk. slot i j k hi hj hk))
      ∙ join_blocks 4 16 (λ q. g (64 * i + q)))
      ∙ join_blocks 64 8 g

pub records_flat : (s t : List ℕ) → Sound s t → all_records s t ≡ join_below (512 * node_count s) (place_record t)
unfolding all_records
records_flat s t S =
    join_same (node_count s) (node (node_records s t)) (λ y. join_below 512 (λ q. place_record t (512 * y + q))) (λ y l. node_is s t S y l)
    ∙ join_blocks 512 (node_count s) (place_record t)

-- ---- the bytes of a filled place's record

module _ (t : List ℕ) where
  pub filled_nonzero : (p : ℕ) → filled_at t p ≡ true → get_or t p 0 ≡ 0 → ⊥
  filled_nonzero p e = eqb-false (get_or t p 0) 0 (not-true _ e)

  pub filled_of : (p : ℕ) → (get_or t p 0 ≡ 0 → ⊥) → filled_at t p ≡ true
  filled_of p h = ap not (ne_eqb (get_or t p 0) 0 h)

  pub record_some : (p : ℕ) → filled_at t p ≡ true → place_record t p ≡ fields_at t p
  unfolding place_record
  record_some p e = ap (λ (b : Bool). cond b [] (fields_at t p)) (not-true (eqb (get_or t p 0) 0) e)

  pub record_none : (p : ℕ) → get_or t p 0 ≡ 0 → place_record t p ≡ []
  unfolding place_record
  record_none p e = ap (λ (b : Bool). cond b [] (fields_at t p)) (eq-eqb _ 0 e)

  -- four bytes for each filled place
  pub records_length : (n : ℕ) → length (join_below n (place_record t)) ≡ 4 * count_below n (filled_at t)
  unfolding join_below count_below place_record
  records_length zero = refl
  records_length (suc n) = length-append (join_below n (place_record t)) (place_record t n) ∙ go (eqb (get_or t n 0) 0) (records_length n)
    where
      go : (b : Bool) → length (join_below n (place_record t)) ≡ 4 * count_below n (filled_at t)
          → length (join_below n (place_record t)) + length (cond b [] (fields_at t n)) ≡ 4 * (count_below n (filled_at t) + cond (not b) 1 0)
      go true e = omega arith
      go false e = omega arith

  -- the record of place p is the one whose number is the count of the filled places before p
  pub record_at : (n p f : ℕ) → p < n → filled_at t p ≡ true → f < 4
      → get_or (join_below n (place_record t)) (4 * count_below p (filled_at t) + f) 0 ≡ get_or (fields_at t p) f 0
  record_at n p f l e hf =
      ap (λ (m : ℕ). get_or (join_below n (place_record t)) (m + f) 0) (sym (records_length p))
      ∙ join_at (place_record t) n p f l (omega (arith, ap length (record_some p e)))
      ∙ ap (λ (l : List ℕ). get_or l f 0) (record_some p e)
