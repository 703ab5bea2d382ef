-- Laws of a whole table: the rules as the code asks them, each unused place with its entry or its level, are the book's. Assumes nothing.
use Prim.Native.Nat.{ℕ, ◌+◌, ◌*◌, ◌/◌, ◌%◌, ◌≤◌, ◌<◌}
use mathlib.Core.Path.{◌≡◌, sym, ap, ◌∙◌}
use mathlib.Core.Logic.{⊎_elim}
use mathlib.Core.Bool.{Bool, true, ◌&&◌}
use mathlib.Core.List.{List}
use native.Mathlib.Omega.{arith}
use lib.Dec.{eqb, ltb}
use lib.ListN.{length, get_or}
use borrow.Author.Tests.{eqb-true, eq-eqb, lt-ltb, ltb-true}
use Rattle.model.specs.Loops.{all_below}
use Rattle.model.specs.Memory.{base, digits, depth}
use Rattle.model.specs.Tables.{slot_place, slot_at}
use Rattle.model.specs.Sound.{slot_sound, entry_sound, level_sound, owner_first, place_used, place_sound, table_sound}
use Rattle.model.proofs.Bools.{same_test, le_or_lt, and_left, and_right, and_intro, or_cases, or_intro_left, or_intro_right}
use Rattle.model.proofs.Loops.{all_at, all_of}
use Rattle.model.proofs.Zero.{part_zero_at, part_zero_of}
use Rattle.state.specs.Checked.{Ranged, Identified}
use Rattle.soundness_tables.specs.TableFacts.{slot_exact, entry_exact, digits_rest_zero, level_exact, levels_rest_zero}

-- ---- unused places: those that are no slot of the settings

-- place p is a slot of the settings
record Used (s : List ℕ) (p : ℕ) : Type 0 where
  level : p / 64 < digits s
  digit : p % 64 / 4 < base s
  slot : p % 4 < depth s

unused_zero : (s T : List ℕ) → all_below 512 (place_sound s T) ≡ true → (p : ℕ) → p < 512 → (Used s p → ⊥) → get_or T p 0 ≡ 0
unused_zero s T e p l h =
    ⊎_elim
    (λ u. absurd
    (h (record {
      level = ltb-true (p / 64) (digits s) (and_left _ _ u);
      digit = ltb-true (p % 64 / 4) (base s) (and_left _ _ (and_right (ltb (p / 64) (digits s)) _ u));
      slot = ltb-true (p % 4) (depth s) (and_right (ltb (p % 64 / 4) (base s)) _ (and_right (ltb (p / 64) (digits s)) _ u));
    })))
    (eqb-true (get_or T p 0) 0) (or_cases (place_used s p) (eqb (get_or T p 0) 0) (all_at 512 (place_sound s T) e p l))

place_of : (s T : List ℕ) (p : ℕ) → ((Used s p → ⊥) → get_or T p 0 ≡ 0) → place_sound s T p ≡ true
place_of s T p h =
    ⊎_elim (λ l. zero (λ u. omega (arith, u.level)))
    (λ l. ⊎_elim (λ g. zero (λ u. omega (arith, u.digit)))
    (λ g. ⊎_elim (λ m. zero (λ u. omega (arith, u.slot)))
    (λ m. or_intro_left (place_used s p) _
    (and_intro _ _ (lt-ltb (p / 64) (digits s) l) (and_intro _ _ (lt-ltb (p % 64 / 4) (base s) g) (lt-ltb (p % 4) (depth s) m))))
    (le_or_lt (depth s) (p % 4))) (le_or_lt (base s) (p % 64 / 4))) (le_or_lt (digits s) (p / 64))
  where
    zero : (Used s p → ⊥) → place_sound s T p ≡ true
    zero f = or_intro_right (place_used s p) (eqb (get_or T p 0) 0) (eq-eqb (get_or T p 0) 0 (h f))

-- ---- a slot

module _ (s : List ℕ) (x : ℕ) (T : List ℕ) (i j k : ℕ) where
  slot_sound_lem : slot_exact s x T i j k ≡ true → slot_sound s x T i j k ≡ true
  unfolding slot_exact slot_sound
  slot_sound_lem e =
      ⊎_elim (or_intro_left (eqb (slot_at T i j k) 0) _)
      (λ q. or_intro_right (eqb (slot_at T i j k) 0) _ (and_right (ltb k (depth s)) _ q)) (or_cases (eqb (slot_at T i j k) 0) _ e)

  slot_past : slot_exact s x T i j k ≡ true → depth s ≤ k → slot_at T i j k ≡ 0
  unfolding slot_exact
  slot_past e l =
      ⊎_elim (eqb-true (slot_at T i j k) 0) (λ q. absurd (omega (arith, ltb-true k (depth s) (and_left _ _ q))))
      (or_cases (eqb (slot_at T i j k) 0) _ e)

  slot_exact_lem : slot_sound s x T i j k ≡ true → k < depth s → slot_exact s x T i j k ≡ true
  unfolding slot_exact slot_sound
  slot_exact_lem e l =
      ⊎_elim (or_intro_left (eqb (slot_at T i j k) 0) _)
      (λ q. or_intro_right (eqb (slot_at T i j k) 0) _ (and_intro (ltb k (depth s)) _ (lt-ltb k (depth s) l) q))
      (or_cases (eqb (slot_at T i j k) 0) _ e)

  slot_zero : slot_at T i j k ≡ 0 → slot_exact s x T i j k ≡ true
  unfolding slot_exact
  slot_zero e = or_intro_left (eqb (slot_at T i j k) 0) _ (eq-eqb (slot_at T i j k) 0 e)

-- ---- the table

module _ (s : List ℕ) (x : ℕ) (T : List ℕ) (w : Ranged s) (whole : length T ≡ 512) where
  -- a sound table meets the rules as the code asks them
  module _ (e : table_sound s x T ≡ true) where
    places : all_below 512 (place_sound s T) ≡ true
    unfolding table_sound
    places = and_right (all_below (digits s) (owner_first s x T)) _ (and_right (all_below (digits s) (level_sound s x T)) _ e)

    slot_there : (i j k : ℕ) → i < digits s → j < base s → k < 4 → slot_exact s x T i j k ≡ true
    unfolding table_sound level_sound entry_sound
    slot_there i j k l g h =
        ⊎_elim
        (λ m. slot_zero s x T i j k (unused_zero s T places (slot_place i j k) (omega (arith, w)) (λ u. omega (arith, u.slot))))
        (λ m. slot_exact_lem s x T i j k
        (all_at (depth s) (slot_sound s x T i j)
        (all_at (base s) (entry_sound s x T i) (all_at (digits s) (level_sound s x T) (and_left _ _ e) i l) j g) k m) m)
        (le_or_lt (depth s) k)

    level_there : (i : ℕ) → i < digits s → level_exact s x T i ≡ true
    unfolding table_sound level_exact entry_exact
    level_there i l =
        and_intro (owner_first s x T i) _
        (all_at (digits s) (owner_first s x T) (and_left _ _ (and_right (all_below (digits s) (level_sound s x T)) _ e)) i l)
        (and_intro (all_below (base s) (entry_exact s x T i)) (digits_rest_zero s T i)
        (all_of (base s) (entry_exact s x T i) (λ j g. all_of 4 (slot_exact s x T i j) (λ k h. slot_there i j k l g h)))
        (part_zero_of T (64 * i + 4 * base s) (64 * i + 64) (omega (arith, w)) (omega (arith, w))
        (λ p g h. unused_zero s T places p (omega (arith, w)) (λ u. omega (arith, u.digit)))))

    table_exact : (all_below (digits s) (level_exact s x T) && levels_rest_zero s T) ≡ true
    table_exact =
        and_intro (all_below (digits s) (level_exact s x T)) (levels_rest_zero s T) (all_of (digits s) (level_exact s x T) level_there)
        (part_zero_of T (64 * digits s) 512 (omega arith) (omega (arith, w))
        (λ p g h. unused_zero s T places p h (λ u. omega (arith, u.level))))

  -- and back
  module _ (e : (all_below (digits s) (level_exact s x T) && levels_rest_zero s T) ≡ true) where
    level_at : (i : ℕ) → i < digits s → level_exact s x T i ≡ true
    level_at = all_at (digits s) (level_exact s x T) (and_left _ _ e)

    entries_at : (i : ℕ) → i < digits s → (all_below (base s) (entry_exact s x T i) && digits_rest_zero s T i) ≡ true
    unfolding level_exact
    entries_at i l = and_right (owner_first s x T i) _ (level_at i l)

    slot_at_lem : (i j k : ℕ) → i < digits s → j < base s → k < 4 → slot_exact s x T i j k ≡ true
    unfolding entry_exact
    slot_at_lem i j k l g h =
        all_at 4 (slot_exact s x T i j) (all_at (base s) (entry_exact s x T i) (and_left _ _ (entries_at i l)) j g) k h

    place_at : (p : ℕ) → p < 512 → (Used s p → ⊥) → get_or T p 0 ≡ 0
    place_at p l f =
        ⊎_elim (λ g. part_zero_at T (64 * digits s) 512 (omega arith) (and_right (all_below (digits s) (level_exact s x T)) _ e) p (omega arith) l)
        (λ g. ⊎_elim
        (λ h. part_zero_at T (64 * (p / 64) + 4 * base s) (64 * (p / 64) + 64) (omega arith)
        (and_right (all_below (base s) (entry_exact s x T (p / 64))) _ (entries_at (p / 64) g)) p (omega arith) (omega arith))
        (λ h. ⊎_elim (λ m. past g h m) (λ m. absurd (f (record { level = g; digit = h; slot = m }))) (le_or_lt (depth s) (p % 4)))
        (le_or_lt (base s) (p % 64 / 4))) (le_or_lt (digits s) (p / 64))
      where
        past : p / 64 < digits s → p % 64 / 4 < base s → depth s ≤ p % 4 → get_or T p 0 ≡ 0
        past g h m =
            let q : slot_place (p / 64) (p % 64 / 4) (p % 4) ≡ p = omega arith in
            ap (λ (n : ℕ). get_or T n 0) (sym q)
            ∙ slot_past s x T (p / 64) (p % 64 / 4) (p % 4) (slot_at_lem (p / 64) (p % 64 / 4) (p % 4) g h (omega arith)) m

    table_sound_lem : table_sound s x T ≡ true
    unfolding table_sound level_sound entry_sound level_exact
    table_sound_lem =
        and_intro (all_below (digits s) (level_sound s x T)) _
        (all_of (digits s) (level_sound s x T)
        (λ i l. all_of (base s) (entry_sound s x T i)
        (λ j g. all_of (depth s) (slot_sound s x T i j) (λ k h. slot_sound_lem s x T i j k (slot_at_lem i j k l g (omega (arith, w)))))))
        (and_intro (all_below (digits s) (owner_first s x T)) _ (all_of (digits s) (owner_first s x T) (λ i l. and_left _ _ (level_at i l)))
        (all_of 512 (place_sound s T) (λ p l. place_of s T p (place_at p l))))

  table_is : (all_below (digits s) (level_exact s x T) && levels_rest_zero s T) ≡ table_sound s x T
  table_is = same_test _ _ table_sound_lem table_exact

-- what the code answers, q, is the book's
pub table_by : (s : List ℕ) (x : ℕ) (T : List ℕ) (q : Bool) → Identified s → length T ≡ 512
    → q ≡ (all_below (digits s) (level_exact s x T) && levels_rest_zero s T) → q ≡ table_sound s x T
table_by s x T q w whole e = e ∙ table_is s x T w.ranged whole
