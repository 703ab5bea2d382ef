-- The answers of a filling, a writing and a reading: a refusal fits a byte, and a number, a length or a place two, so neither reaches into
-- the other and shift and mask give both back. Assumes nothing.
use Prim.Native.Nat.{ℕ, ◌+◌, ◌*◌, ◌/◌, ◌%◌, ◌≤◌, ◌<◌}
use mathlib.Core.Path.{◌≡◌, refl, sym, ap, subst, ◌∙◌}
use mathlib.Core.List.{List, [], ◌∷◌}
use native.Mathlib.Omega.{arith}
use lib.ListN.{get_or, length}
use Rattle.std.specs.Prelude.{Result, Ok, Err}
use Rattle.model.specs.Memory.{Memory}
use Rattle.model.specs.Refusals.{fill_refusal, read_refusal, write_refusal}
use Rattle.model.specs.Calls.{Outcome, refused_at, refused, taken, read_call, filled_by, fill_call, write_call}
use Rattle.model.proofs.Refusals.{numbered, sentences_below}
use Rattle.model.proofs.Calls.{either_end}
use Rattle.model.proofs.FillingFew.{filling_few}
use Rattle.model.proofs.JoinSections.{image_most}
use Rattle.model.proofs.Taken.{fill_taken, write_taken}
use Rattle.model.proofs.Places.{place_few}
use Rattle.answers.specs.Fields.{number_fields, read_fields}
use Rattle.answers.specs.declared.error.Refusal.{Refusal}
use Rattle.answers.specs.declared.error.ImageRefused.{ImageRefused}
use Rattle.engine.specs.Outcomes.{writes}
use Rattle.packing.specs.declared.numbers.Numbers.{Numbers}
use Rattle.packing.specs.Listed.{listed}
use Rattle.packing.specs.Numbers.{first_five}
use Rattle.packing.specs.Packed.{packed, Fits}

-- the two fields of an answer are a refusal and a number of two bytes
unfoldable pub Short : List ℕ → Type 0
Short fields = (get_or fields 0 0 < 256) × (get_or fields 1 0 ≤ 65535)

module _ (o : Outcome) (short : Short o.answer) (m : Memory) (after : List ℕ) (r n : ℕ) (e : writes m after (r ∷ n ∷ []) ≡ o) where
  both_short : Short (r ∷ n ∷ [])
  both_short = subst (λ (o : Outcome). Short o.answer) (sym e) short

  fits_byte : r < 256
  unfolding Short
  fits_byte = both_short.0

  fits_wide : n < 4294967296
  unfolding Short
  fits_wide = let h : n ≤ 65535 = both_short.1 in omega arith

  -- bits 0 to 7 are the refusal
  pub refusal_back : packed (r ∷ n ∷ []) % 256 ≡ r
  unfolding packed
  refusal_back = omega (arith, fits_byte)

  -- bits 8 to 39 are the other field
  pub wide_back : packed (r ∷ n ∷ []) / 256 % 4294967296 ≡ n
  unfolding packed
  wide_back = omega (arith, fits_byte, fits_wide)

two_fit : (fields : List ℕ) → length fields ≤ 2 → Short fields → Fits (first_five fields)
unfolding packed Short
two_fit [] h s = omega arith
two_fit (a ∷ []) h s = omega (arith, s.0)
two_fit (a ∷ b ∷ []) h s = omega (arith, s.0, s.1)
two_fit (a ∷ b ∷ c ∷ xs) h s = absurd (omega arith)

-- a call whose outcome is o, with two fields
pub short_fits : (o : Outcome) → Short o.answer → (m : Memory) (out fields : List ℕ) → length fields ≤ 2 → writes m out fields ≡ o → (n : Numbers)
    → listed n ≡ first_five fields → Fits (first_five (listed n))
short_fits o s m out fields few e n q =
    subst (λ (l : List ℕ). Fits (first_five l)) (sym q) (two_fit fields few (subst (λ (o : Outcome). Short o.answer) (sym e) s))

pub number_few : (r : Result ℕ Refusal) → length (number_fields r) ≤ 2
number_few (Ok a) = omega arith
number_few (Err e) = omega arith

pub read_few : {A : Type 0} (r : Result A ImageRefused) → length (read_fields r) ≤ 2
read_few (Ok a) = omega arith
read_few (Err e) = omega arith

pub fill_short : (m : Memory) (out : List ℕ) → Short (fill_call m out).answer
unfolding Short fill_refusal fill_call filled_by refused_at taken numbered
fill_short m out =
    either_end (λ (o : Outcome). Short o.answer) (fill_refusal m out) (refused m out 1) _
    (λ nz. (sentences_below _ refl, omega arith))
    (λ z. let h = filling_few m.state m.tables (fill_taken m out z).0 in (omega arith, omega (arith, h)))

pub write_short : (m : Memory) (v : ℕ) (out : List ℕ) → Short (write_call m v out).answer
unfolding Short write_refusal write_call refused_at taken numbered
write_short m v out =
    either_end (λ (o : Outcome). Short o.answer) (write_refusal m v out) (refused m out 1) _
    (λ nz. (sentences_below _ refl, omega arith))
    (λ z. let h = image_most v m.state m.tables (write_taken m v out z).sound in (omega arith, omega arith))

pub read_short : (m : Memory) (im : List ℕ) → Short (read_call m im).answer
unfolding Short read_refusal read_call refused_at taken numbered
read_short m im =
    either_end (λ (o : Outcome). Short o.answer) (read_refusal m im) _ _
    (λ nz. (sentences_below _ refl, let h = place_few m im in omega arith)) (λ z. (omega arith, omega arith))
