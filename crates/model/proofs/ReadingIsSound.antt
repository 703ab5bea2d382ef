-- The state that reading gives is sound, in either version: of version 1 by the rules of an image, of version 2 because it was judged in memory that has
-- just the fixed lengths, and what reading gives there is what it gives in any memory. Assumes nothing.
use Prim.Native.Nat.{ℕ, ◌≤◌}
use mathlib.Core.Path.{◌≡◌, sym, ap, subst, ◌∙◌}
use mathlib.Core.Logic.{◌⊎◌, inl, inr}
use mathlib.Core.Bool.{Bool, true, false, cond}
use mathlib.Core.List.{List, ◌++◌}
use native.Mathlib.Nat.{le_of_eq}
use native.Mathlib.Omega.{arith}
use lib.ListN.{length, take, drop, replicate, length-append, length-replicate, drop_of_length-le}
use lib.Seq.{length-take-le, take_at, take-length}
use Rattle.model.specs.Loops.{each_below}
use Rattle.model.specs.Memory.{Memory, state_length, tables_length, zeroed}
use Rattle.model.specs.Join.{with_settings}
use Rattle.model.specs.Image.{has_joins, im_version, im_base, im_digits, im_depth, im_nodes, im_records, joins_listed, load_id, loaded_ids, loaded_joins, load_record, loaded_tables, loaded_state, loaded, held}
use Rattle.model.specs.Refusals.{read_refusal}
use Rattle.model.proofs.Bools.{true_or_false}
use Rattle.model.proofs.Status.{IsNode}
use Rattle.model.proofs.NodeCounts.{Fresh}
use Rattle.model.proofs.Sound.{Long, Sound, sound_ok}
use Rattle.model.proofs.LoadingIsSound.{GoodImage, ids_fresh, ids_ok}
use Rattle.model.proofs.Taken.{read_taken, read_joins}
use Rattle.model.proofs.Within.{within_parted}
use Rattle.model.proofs.Works.{read_works}
use Rattle.model.proofs.Alike.{LongAlike, still_sound}

-- memory of just n places, cleared, is the same whatever it held
cleared : (n : ℕ) (a : List ℕ) → length a ≡ n → zeroed n a ≡ zeroed n (replicate n 0)
cleared n a e =
    ap (λ (l : List ℕ). replicate n 0 ++ l)
    (drop_of_length-le a (le_of_eq e) ∙ sym (drop_of_length-le (replicate n 0) (le_of_eq (length-replicate {A = ℕ} n 0))))

-- ---- what reading gives in any memory

module _ (s t im : List ℕ) (long : Long s t) (R : GoodImage im) (listed : has_joins (im_version im) ≡ true → joins_listed im ≡ true) where
  words_of : (a : List ℕ) → length a ≡ state_length → (loaded a t im).state ≡ (held im).state
  unfolding held loaded loaded_state loaded_ids
  words_of a e =
      ap
      (λ (z : List ℕ).
      let w : List ℕ = each_below (im_nodes im) (load_id im) (with_settings z (im_base im) (im_digits im) (im_depth im) (im_nodes im)) in
      cond (has_joins (im_version im)) (loaded_joins im w) w)
      (cleared state_length a e)

  tables_of : (a : List ℕ) → length a ≡ tables_length → (loaded s a im).tables ≡ (held im).tables
  unfolding held loaded loaded_tables
  tables_of a e = ap (each_below (im_records im) (load_record im)) (cleared tables_length a e)

  pub loaded_state_lem : (loaded s t im).state ≡ (held im).state ++ drop state_length s
  loaded_state_lem =
      within_parted state_length (λ s. (loaded s t im).state) (read_works im R s t listed).state s long.state
      ∙ ap (λ (l : List ℕ). l ++ drop state_length s) (words_of (take state_length s) (length-take-le state_length s long.state))

  pub loaded_tables_lem : (loaded s t im).tables ≡ (held im).tables ++ drop tables_length t
  loaded_tables_lem =
      within_parted tables_length (λ t. (loaded s t im).tables) (read_works im R s t listed).tables t long.tables
      ∙ ap (λ (l : List ℕ). l ++ drop tables_length t) (tables_of (take tables_length t) (length-take-le tables_length t long.tables))

  pub held_words : length (held im).state ≡ state_length
  held_words =
      sym (ap length (words_of (take state_length s) (length-take-le state_length s long.state)))
      ∙ (read_works im R s t listed).state.long (take state_length s) (length-take-le state_length s long.state)

  pub held_bytes : length (held im).tables ≡ tables_length
  held_bytes =
      sym (ap length (tables_of (take tables_length t) (length-take-le tables_length t long.tables)))
      ∙ (read_works im R s t listed).tables.long (take tables_length t) (length-take-le tables_length t long.tables)

  -- so it is alike there
  held_alike : LongAlike (held im).state (held im).tables (loaded s t im).state (loaded s t im).tables
  held_alike = record {
    alike = record {
      state = front state_length (held im).state (drop state_length s) _ held_words loaded_state_lem;
      tables = front tables_length (held im).tables (drop tables_length t) _ held_bytes loaded_tables_lem;
    };
    long = record { state = le_of_eq (sym held_words); tables = le_of_eq (sym held_bytes) };
    long' = record {
      state = longer state_length (held im).state (drop state_length s) _ held_words loaded_state_lem;
      tables = longer tables_length (held im).tables (drop tables_length t) _ held_bytes loaded_tables_lem;
    };
  }
    where
      front : (n : ℕ) (a b l : List ℕ) → length a ≡ n → l ≡ a ++ b → take n l ≡ take n a
      front n a b l e w = ap (take n) w ∙ take_at a b n e ∙ sym (ap (λ (n : ℕ). take n a) (sym e) ∙ take-length a)

      longer : (n : ℕ) (a b l : List ℕ) → length a ≡ n → l ≡ a ++ b → n ≤ length l
      longer n a b l e w = omega (arith, ap length w, length-append a b)

-- ---- an image that is not refused

-- what it gives, by its version
pub loaded_by : (s t im : List ℕ) (b : Bool) → has_joins (im_version im) ≡ b
    → loaded s t im ≡ record { state = cond b (loaded_joins im (loaded_ids s im)) (loaded_ids s im); tables = loaded_tables t im }
unfolding loaded loaded_state
loaded_by s t im b =
    ap (λ (b : Bool). record { state = cond b (loaded_joins im (loaded_ids s im)) (loaded_ids s im); tables = loaded_tables t im })

module _ (m : Memory) (im : List ℕ) (e : read_refusal m im ≡ 0) where
  abbrev given : Memory
  given = loaded m.state m.tables im

  pub read_listed : has_joins (im_version im) ≡ true → joins_listed im ≡ true
  read_listed v = (read_joins m im e v).0

  pub read_sound : Sound given.state given.tables
  read_sound = go (true_or_false (has_joins (im_version im)))
    where
      long : Long m.state m.tables
      long = (read_taken m im e).0

      R : GoodImage im
      R = (read_taken m im e).1

      go : (has_joins (im_version im) ≡ true) ⊎ (has_joins (im_version im) ≡ false) → Sound given.state given.tables
      go (inl v) =
          let a = held_alike m.state m.tables im long R read_listed in
          still_sound (held im).state (held im).tables given.state given.tables a
          (sound_ok (held im).state (held im).tables a.long (read_joins m im e v).1)
      go (inr v) =
          subst (λ (m : Memory). Sound m.state m.tables) (sym (loaded_by m.state m.tables im false v))
          (ids_ok m.state m.tables im long R)

  -- of version 1 nothing is counted yet
  pub read_fresh : has_joins (im_version im) ≡ false → (x : ℕ) → IsNode given.state x → Fresh given.state x
  read_fresh v =
      subst (λ (m : Memory). (x : ℕ) → IsNode m.state x → Fresh m.state x) (sym (loaded_by m.state m.tables im false v))
      (ids_fresh m.state m.tables im (read_taken m im e).0 (read_taken m im e).1)
