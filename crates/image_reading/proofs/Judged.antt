-- What reading leaves and answers, by what it found of 24. Assumes nothing.
use Prim.Native.Nat.{ℕ}
use mathlib.Core.Path.{◌≡◌, sym, ap, ap₂, ◌∙◌}
use mathlib.Core.Bool.{Bool, true, false, cond, not, ◌&&◌, ◌||◌}
use mathlib.Core.List.{List, ◌++◌}
use native.Mathlib.Nat.{le_of_eq}
use lib.ListN.{length, take, drop, replicate}
use lib.Seq.{length-take-le}
use borrow.Author.Tests.{le-ltb}
use Rattle.model.specs.Memory.{Memory, state_length, tables_length}
use Rattle.model.specs.Sound.{sound}
use Rattle.model.specs.Image.{has_joins, im_version, joins_listed, loaded, held}
use Rattle.model.specs.Refusals.{memory_short, joins_wrong}
use Rattle.model.proofs.Bools.{not_both}
use Rattle.model.proofs.Sound.{Long}
use Rattle.model.proofs.ReadingIsSound.{loaded_state_lem, loaded_tables_lem, held_words, held_bytes}
use Rattle.state.specs.Lent.{memory}
use Rattle.image_loading.specs.Loads.{Loads}
use Rattle.image_reading.specs.Reads.{Reads, read_memory, read_answer}

-- ---- the two answers

pub refused : (s t im : List ℕ) → joins_wrong im ≡ true → (memory s t ≡ read_memory s t im) × (24 ≡ read_answer im)
refused s t im w = (sym (ap (λ (b : Bool). cond b (memory s t) (loaded s t im)) w), sym (ap (λ (b : Bool). cond b 24 0) w))

pub taken : (s t im : List ℕ) (m : Memory) → joins_wrong im ≡ false → m ≡ loaded s t im → (m ≡ read_memory s t im) × (0 ≡ read_answer im)
taken s t im m w e = (e ∙ sym (ap (λ (b : Bool). cond b (memory s t) (loaded s t im)) w), sym (ap (λ (b : Bool). cond b 24 0) w))

-- ---- what decides

abbrev wrong : Bool → Bool → Bool → Bool
wrong joins listed right = joins && not (listed && right)

loads : (s t im : List ℕ) → Reads s t im → (has_joins (im_version im) ≡ true → joins_listed im ≡ true) → Loads s t im
loads s t im R listed = record { state = R.state; tables = R.tables; good = R.good; listed = listed }

-- version 1 has no joins; b is what the code found of the version
module _ (im : List ℕ) (b : Bool) (e : b ≡ has_joins (im_version im)) (g : b ≡ false) where
  pub plain_right : joins_wrong im ≡ false
  plain_right = ap (λ (b : Bool). wrong b (joins_listed im) (sound (held im).state (held im).tables)) (sym e ∙ g)

  pub plain_loads : (s t : List ℕ) → Reads s t im → Loads s t im
  plain_loads s t R = loads s t im R (λ v. absurd (not_both (has_joins (im_version im)) v (sym e ∙ g)))

-- the state in memory w and z of the fixed lengths, where r is what the check said of it
module _ (s t im : List ℕ) (L : Loads s t im) (v : has_joins (im_version im) ≡ true) (w z : List ℕ)
    (e : memory w z ≡ loaded (replicate state_length 0) (replicate tables_length 0) im) where
  long : Long s t
  long = record { state = L.state; tables = L.tables }

  is_held : memory w z ≡ held im
  unfolding held
  is_held = e

  words : w ≡ (held im).state
  words = ap (λ (m : Memory). m.state) is_held

  bytes : z ≡ (held im).tables
  bytes = ap (λ (m : Memory). m.tables) is_held

  words_long : length w ≡ state_length
  words_long = ap length words ∙ held_words s t im long L.good L.listed

  bytes_long : length z ≡ tables_length
  bytes_long = ap length bytes ∙ held_bytes s t im long L.good L.listed

  module _ (r : Bool) (q : r ≡ (not (memory_short (memory w z)) && sound w z)) where
    wrong_is : joins_wrong im ≡ not r
    wrong_is =
        ap₂ (λ (a b : Bool). wrong a b (sound (held im).state (held im).tables)) v (L.listed v)
        ∙ ap not
        (ap₂ sound (sym words) (sym bytes)
        ∙ sym (ap₂ (λ (a b : Bool). not (a || b) && sound w z) (le-ltb _ _ (le_of_eq (sym bytes_long))) (le-ltb _ _ (le_of_eq (sym words_long))))
        ∙ sym q)

    pub wrong_said : (b : Bool) → not r ≡ b → joins_wrong im ≡ b
    wrong_said b g = wrong_is ∙ g

  pub fits_tables : length (take tables_length t) ≡ length z
  fits_tables = length-take-le tables_length t L.tables ∙ sym bytes_long

  -- copied to the lent memory it is what the image gives there
  pub copied : (s' r : List ℕ) → s' ≡ w ++ drop state_length s → r ≡ z → memory s' (r ++ drop tables_length t) ≡ loaded s t im
  copied s' r p q =
      ap₂ memory (p ∙ ap (λ (l : List ℕ). l ++ drop state_length s) words ∙ sym (loaded_state_lem s t im long L.good L.listed))
      (ap (λ (l : List ℕ). l ++ drop tables_length t) (q ∙ bytes) ∙ sym (loaded_tables_lem s t im long L.good L.listed))
