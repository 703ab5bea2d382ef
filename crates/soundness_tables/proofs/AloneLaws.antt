-- Laws of a level that holds its owner and nothing else, as the code finds it: one slot of 64 is filled, the first of its own entry.
-- Assumes nothing.
use Prim.Native.Nat.{ℕ, ◌+◌, ◌-◌, ◌*◌, ◌≤◌, ◌<◌}
use mathlib.Core.Path.{◌≡◌, refl, sym, ap, ap₂, ◌∙◌}
use mathlib.Core.Logic.{◌≢◌, ⊎_elim}
use mathlib.Core.Bool.{Bool, true, false, cond, not}
use mathlib.Core.List.{List}
use native.Mathlib.Decide.{le_ind}
use native.Mathlib.Omega.{arith}
use lib.Dec.{eqb}
use lib.ListN.{length, get_or, take, drop}
use borrow.Author.Tests.{eqb-true, eqb-false, eq-eqb, ne_eqb, not-false}
use Rattle.model.specs.Loops.{all_below, count_below}
use Rattle.model.specs.Ids.{digit_of, low_digits}
use Rattle.model.specs.Memory.{base, depth, node_count, id_of}
use Rattle.model.specs.Tables.{qualified, slot_at}
use Rattle.model.specs.Nodes.{qualifies}
use Rattle.model.specs.Sound.{may_stand, no_gap_before, slot_differs}
use Rattle.model.proofs.Bools.{and_intro, or_intro_left, is_false, true_or_false, le_or_lt}
use Rattle.model.proofs.Loops.{all_of, all_zero_lem, count_step, count_some}
use Rattle.model.proofs.Splice.{part_at}
use Rattle.model.proofs.Zero.{part_zero_of}
use Rattle.soundness_tables.specs.TableFacts.{slot_filled, filled_sound, slot_exact, entry_exact, level_exact}
use Rattle.soundness_tables.proofs.SlotLaws.{slot_empty, slot_filled_lem}

-- ---- counting

pub count_goes : (p : ℕ) (f : ℕ → Bool) (count w : ℕ) → count ≡ count_below p f → w ≡ cond (f p) 1 0 → count + w ≡ count_below (p + 1) f
count_goes p f count w e q = ap₂ ◌+◌ e q ∙ sym (count_step p f)

count_two : (n : ℕ) (f : ℕ → Bool) (a b : ℕ) → a < b → b < n → f a ≡ true → f b ≡ true → 2 ≤ count_below n f
unfolding count_below
count_two n f a b l g e q =
    le_ind (λ (m : ℕ). 2 ≤ count_below m f) (rw q (omega (arith, count_some b f a l e))) (λ m g h. omega (arith, h)) n g

-- where the count is one and the test holds at k, it holds nowhere else
pub count_one : (n : ℕ) (f : ℕ → Bool) (k : ℕ) → k < n → f k ≡ true → count_below n f ≡ 1 → (m : ℕ) → m < n → (m ≡ k → ⊥) → f m ≡ false
count_one n f k l e q m g h = sym (is_false (f m) (λ t. ⊎_elim (up t) (down t) (le_or_lt m k)))
  where
    up : f m ≡ true → m ≤ k → ⊥
    up t z = omega (arith, q, count_two n f m k (omega arith) l t e)

    down : f m ≡ true → k < m → ⊥
    down t z = omega (arith, q, count_two n f k m z g e t)

-- ---- the level

module _ (s : List ℕ) (x : ℕ) (T : List ℕ) (i j : ℕ) (whole : length T ≡ 512) (within : i < 8) (is_digit : j ≡ digit_of (id_of s x) i)
    (below : j < base s) (few : base s ≤ 16) (deep : 1 ≤ depth s) (known : x ≤ node_count s) (some : x ≡ 0 → ⊥) (first : slot_at T i j 0 ≡ x)
    (others : (p : ℕ) → p < 64 → (p ≡ 4 * j → ⊥) → get_or T (64 * i + p) 0 ≡ 0) where
  owner_stands : true ≡ filled_sound s x T i j 0 x
  unfolding qualified
  owner_stands =
      sym
      (and_intro (may_stand s x x) _ (or_intro_left (eqb x x) _ (eq-eqb x x refl))
      (and_intro (qualifies s x i j x) _ (and_intro _ (eqb (digit_of (id_of s x) i) j) (eq-eqb (low_digits (id_of s x) i) _ refl) (eq-eqb _ _ (sym is_digit)))
      (and_intro (no_gap_before T i j 0) (all_below 0 (slot_differs T i j x)) refl (all_zero_lem (slot_differs T i j x)))))

  own_slot : true ≡ slot_exact s x T i j 0
  own_slot = slot_filled_lem s x T i j 0 x (depth s) (node_count s) true (sym first) refl refl some deep known owner_stands

  other_slot : (m k : ℕ) → m < 16 → k < 4 → (4 * m + k ≡ 4 * j → ⊥) → true ≡ slot_exact s x T i m k
  other_slot m k l g h =
      let w : 64 * i + 4 * m + k ≡ 64 * i + (4 * m + k) = omega arith in
      slot_empty s x T i m k 0 (sym (ap (λ (p : ℕ). get_or T p 0) w ∙ others (4 * m + k) (omega arith) h)) refl

  slot_alone : (m k : ℕ) → m < 16 → k < 4 → true ≡ slot_exact s x T i m k
  slot_alone m k l g =
      ⊎_elim (λ e. let p : m ≡ j = omega (arith, eqb-true (4 * m + k) (4 * j) e) in
      let q : k ≡ 0 = omega (arith, eqb-true (4 * m + k) (4 * j) e) in
      own_slot ∙ ap₂ (slot_exact s x T i) (sym p) (sym q))
      (λ e. other_slot m k l g (eqb-false (4 * m + k) (4 * j) e)) (true_or_false (eqb (4 * m + k) (4 * j)))

  pub level_is_sound : true ≡ level_exact s x T i
  unfolding level_exact entry_exact
  level_is_sound =
      sym
      (and_intro _ _ (eq-eqb _ x (ap (λ (d : ℕ). slot_at T i d 0) (sym is_digit) ∙ first))
      (and_intro _ _
      (all_of (base s) (entry_exact s x T i) (λ m l. all_of 4 (slot_exact s x T i m) (λ k g. sym (slot_alone m k (omega arith) g))))
      (part_zero_of T (64 * i + 4 * base s) (64 * i + 64) (omega arith) (omega arith)
      (λ p l h.
      let w : p ≡ 64 * i + (p - 64 * i) = omega arith in
      ap (λ (q : ℕ). get_or T q 0) w ∙ others (p - 64 * i) (omega arith) (λ e. omega arith)))))

-- the code's facts: u is the first of entry j, count the number of filled slots
pub alone_sound : (s : List ℕ) (x : ℕ) (T : List ℕ) (i j u count : ℕ) → length T ≡ 512 → i < 8 → j ≡ digit_of (id_of s x) i → j < base s
    → base s ≤ 16 → 1 ≤ depth s → x ≤ node_count s → 1 ≤ x → u ≡ slot_at T i j 0 → u ≡ x
    → count ≡ count_below 64 (slot_filled (take (64 * i + 64 - 64 * i) (drop (64 * i) T))) → count ≡ 1 → true ≡ level_exact s x T i
alone_sound s x T i j u count whole l e below few deep known some p q c one =
    level_is_sound s x T i j whole l e below few deep known (λ z. omega arith) (sym p ∙ q) others
  where
    size : 64 * i + 64 - 64 * i ≡ 64
    size = omega arith

    row : List ℕ
    row = take (64 * i + 64 - 64 * i) (drop (64 * i) T)

    at : (k : ℕ) → k < 64 → get_or row k 0 ≡ get_or T (64 * i + k) 0
    at k g = part_at (64 * i) (64 * i + 64 - 64 * i) T (omega arith) k (omega arith)

    own : slot_filled row (4 * j) ≡ true
    own =
        let f : x ≢ 0 = omega arith in
        let w : 64 * i + 4 * j ≡ 64 * i + 4 * j + 0 = omega arith in
        ap not (ne_eqb (get_or row (4 * j) 0) 0 (λ z. f (sym (ap (λ (n : ℕ). get_or T n 0) w ∙ sym p ∙ q) ∙ sym (at (4 * j) (omega arith)) ∙ z)))

    others : (k : ℕ) → k < 64 → (k ≡ 4 * j → ⊥) → get_or T (64 * i + k) 0 ≡ 0
    others k g h =
        sym (at k g)
        ∙ eqb-true (get_or row k 0) 0 (not-false _ (count_one 64 (slot_filled row) (4 * j) (omega arith) own (sym c ∙ one) k g h))
