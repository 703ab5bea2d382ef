-- An image that writing makes is one that reading takes, and read into any memory it gives back the state in every word and byte of the fixed lengths, of
-- version 1 but for the counts, which are zero. Assumes nothing.
use Prim.Native.Nat.{ℕ, ◌≤◌}
use mathlib.Core.Path.{◌≡◌, refl, sym, ap, ap₂, subst, ◌∙◌}
use mathlib.Core.Logic.{◌⊎◌, inl, inr}
use mathlib.Core.Bool.{Bool, true, false, cond, not, ◌&&◌}
use mathlib.Core.List.{List, ◌++◌}
use native.Mathlib.Nat.{le_of_eq}
use native.Mathlib.Omega.{arith}
use lib.ListN.{length, take, drop, replicate, length-replicate}
use lib.Seq.{length-take-le, take_at}
use borrow.Author.Tests.{eqb-true}
use Rattle.model.specs.Memory.{Memory, state_length, tables_length, is_in_system}
use Rattle.model.specs.Sound.{sound}
use Rattle.model.specs.Image.{is_version, has_joins, rest_bytes, image_of, im_version, im_length, joins_listed, loaded_tables, loaded, held, without_counts, kept}
use Rattle.model.specs.Refusals.{joins_wrong, read_refusal}
use Rattle.model.proofs.Bools.{and_intro, true_or_false}
use Rattle.model.proofs.Status.{IsNode}
use Rattle.model.proofs.Sound.{Long, Sound, sound_of}
use Rattle.model.proofs.ReadingIsSound.{loaded_by}
use Rattle.model.proofs.Counts.{length_plain, length_joins}
use Rattle.model.proofs.Sections.{Pictures, pictures, end_back, image_length}
use Rattle.model.proofs.JoinSections.{JoinsPictured, joins_pictured, rest_plain, rest_length, image_most}
use Rattle.model.proofs.JoinsListed.{listed}
use Rattle.model.proofs.Frame.{read_free}
use Rattle.model.proofs.WrittenIsTaken.{written_readable}
use Rattle.model.proofs.Over.{over, over_length}
use Rattle.model.proofs.Alike.{still_sound}
use Rattle.model.proofs.Reloaded.{words_back, tables_back}
use Rattle.model.proofs.JoinsReloaded.{words_resumed}

-- the fixed lengths of one memory, and another's places past them
unfoldable pub onto : Memory → Memory → Memory
onto m m' = record {
  state = take state_length m.state ++ drop state_length m'.state;
  tables = take tables_length m.tables ++ drop tables_length m'.tables;
}

-- a sound state is sound in other memory too
sound_over : (s t s' t' : List ℕ) → Sound s t → Long s' t' → Sound (over state_length s s') (over tables_length t t')
sound_over s t s' t' S long =
    still_sound s t (over state_length s s') (over tables_length t t')
    (record {
      alike = record { state = front state_length s s' S.long.state; tables = front tables_length t t' S.long.tables };
      long = S.long;
      long' = record {
        state = longer state_length s s' S.long.state long.state;
        tables = longer tables_length t t' S.long.tables long.tables;
      };
    }) S
  where
    front : (n : ℕ) (a b : List ℕ) → n ≤ length a → take n (over n a b) ≡ take n a
    front n a b f = take_at (take n a) (drop n b) n (length-take-le n a f)

    longer : (n : ℕ) (a b : List ℕ) → n ≤ length a → n ≤ length b → n ≤ length (over n a b)
    longer n a b f g = omega (arith, over_length n a b f g, g)

module _ (v : ℕ) (s t : List ℕ) (S : Sound s t) (in_system : has_joins v ≡ false → (x : ℕ) → IsNode s x → is_in_system s x ≡ true) where
  abbrev im : List ℕ
  im = image_of v s t

  P : Pictures (image_of v s t) s t
  P = pictures v s t S

  version_back : im_version (image_of v s t) ≡ v
  unfolding image_of
  version_back = refl

  joins_back : has_joins v ≡ true → JoinsPictured (image_of v s t) s
  joins_back e = subst (λ (v : ℕ). JoinsPictured (image_of v s t) s) (sym (eqb-true v 2 e)) (joins_pictured s t S)

  -- the version that reading finds
  found_as : (b : Bool) → has_joins v ≡ b → has_joins (im_version (image_of v s t)) ≡ b
  found_as b e = ap has_joins version_back ∙ e

  size_back : length (image_of v s t) ≡ im_length (image_of v s t)
  size_back = go (true_or_false (has_joins v))
    where
      go : (has_joins v ≡ true) ⊎ (has_joins v ≡ false) → length (image_of v s t) ≡ im_length (image_of v s t)
      go (inl e) =
          let J = joins_back e in
          let rest : length (rest_bytes v s) ≡ length (rest_bytes 2 s) = ap (λ (v : ℕ). length (rest_bytes v s)) (eqb-true v 2 e) in
          omega (arith, image_length v s t, end_back v s t S, rest, rest_length s, length_joins im (found_as true e), J.joins, J.counts)
      go (inr e) =
          let rest : length (rest_bytes v s) ≡ 0 = ap length (rest_plain s v e) in
          omega (arith, image_length v s t, end_back v s t S, rest, length_plain im (found_as false e))

  -- ---- what it gives in any memory

  module _ (s' t' : List ℕ) (long : Long s' t') where
    written_loaded : loaded s' t' (image_of v s t) ≡ record { state = over state_length (kept v s) s'; tables = over tables_length t t' }
    written_loaded = go (true_or_false (has_joins v))
      where
        tables : loaded_tables t' (image_of v s t) ≡ over tables_length t t'
        tables = tables_back im s t S P t' long.tables

        go : (has_joins v ≡ true) ⊎ (has_joins v ≡ false)
            → loaded s' t' (image_of v s t) ≡ record { state = over state_length (kept v s) s'; tables = over tables_length t t' }
        go (inl e) =
            loaded_by s' t' im true (found_as true e)
            ∙ ap₂ (λ (a b : List ℕ). record { state = a; tables = b }) (words_resumed im s t S P (joins_back e) s' long.state) tables
            ∙ ap (λ (b : Bool). record { state = over state_length (cond b s (without_counts s)) s'; tables = over tables_length t t' }) (sym e)
        go (inr e) =
            loaded_by s' t' im false (found_as false e)
            ∙ ap₂ (λ (a b : List ℕ). record { state = a; tables = b }) (words_back im s t S P (in_system e) s' long.state) tables
            ∙ ap (λ (b : Bool). record { state = over state_length (cond b s (without_counts s)) s'; tables = over tables_length t t' }) (sym e)

  -- ---- so 24 does not refuse it

  held_sound : has_joins v ≡ true → sound (held (image_of v s t)).state (held (image_of v s t)).tables ≡ true
  unfolding held
  held_sound e =
      let z : List ℕ = replicate state_length 0 in
      let y : List ℕ = replicate tables_length 0 in
      let long : Long (replicate state_length 0) (replicate tables_length 0) = record {
        state = le_of_eq (sym (length-replicate {A = ℕ} state_length 0));
        tables = le_of_eq (sym (length-replicate {A = ℕ} tables_length 0));
      } in
      let w = written_loaded z y long in
      ap (λ (m : Memory). sound m.state m.tables) w
      ∙ ap (λ (b : Bool). sound (over state_length (cond b s (without_counts s)) z) (over tables_length t y)) e
      ∙ sound_of (over state_length s z) (over tables_length t y) (sound_over s t z y S long)

  joins_right : joins_wrong (image_of v s t) ≡ false
  joins_right = go (true_or_false (has_joins v))
    where
      go : (has_joins v ≡ true) ⊎ (has_joins v ≡ false) → joins_wrong (image_of v s t) ≡ false
      go (inl e) =
          ap₂ (λ (a b : Bool). a && not b) (found_as true e)
          (and_intro (joins_listed im) _ (listed im s P.nodes (joins_back e)) (held_sound e))
      go (inr e) = ap (λ (b : Bool). b && not (joins_listed im && sound (held im).state (held im).tables)) (found_as false e)

  -- ---- and reading takes it

  pub written_taken : is_version v ≡ true → (m : Memory) → Long m.state m.tables → read_refusal m (image_of v s t) ≡ 0
  written_taken good m long =
      read_free im
      (record {
        first = P.first;
        version = ap is_version version_back ∙ good;
        size = size_back;
        short = omega (arith, image_most v s t S);
      })
      (written_readable im s t S P) joins_right m long

  -- with the state as it was
  pub written_read : (m : Memory) → Long m.state m.tables
      → loaded m.state m.tables (image_of v s t) ≡ onto (record { state = kept v s; tables = t }) m
  unfolding onto
  written_read m long = written_loaded m.state m.tables long
