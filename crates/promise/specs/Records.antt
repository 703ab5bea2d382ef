-- What reading says of records, of the call (document 02, Ticket 2): which record each of 10, 17 and 18 gives the place of, and that the three
-- together stand exactly where 10 stood before they were told apart.
use Rattle.std.specs.Prelude.{ℕ, ◌+◌, ◌-◌, ◌≤◌, ◌<◌, ◌≡◌, ◌≢◌, Bool, true, false, cond, not, ◌&&◌, ◌||◌, List, [], ◌∷◌, ◌++◌, eqb, get_or}
use Rattle.model.specs.Memory.{Memory}
use Rattle.model.specs.Image.{im_records, rec_ordered, rec_allowed, rec_owner_first, records_ordered, records_allowed, own_present, records_owned}
use Rattle.model.specs.Refusals.{first_true, memory_short, frame_sentences, joins_wrong}
use Rattle.model.specs.Calls.{read_call}

-- what a reading answers
abbrev pub refusal_of : Memory → List ℕ → ℕ
refusal_of m im = get_or (read_call m im).answer 0 0

abbrev pub place_of : Memory → List ℕ → ℕ
place_of m im = get_or (read_call m im).answer 1 0

-- the record at this place, counted from 1, fails a test, and none before it does; the test counts records from 0
pub record FirstToFail (im : List ℕ) (test : ℕ → Bool) (place : ℕ) : Type 0 where
  pub least : 1 ≤ place
  pub most : place ≤ im_records im
  pub fails : test (place - 1) ≡ false
  pub before : (r : ℕ) → r + 1 < place → test r ≡ true

pub record Places (m : Memory) (im : List ℕ) : Type 0 where
  pub ten : refusal_of m im ≡ 10 → FirstToFail im (rec_ordered im) (place_of m im)
  -- every record is in its order
  pub seventeen : refusal_of m im ≡ 17 → (records_ordered im ≡ true) × FirstToFail im (rec_allowed im) (place_of m im)
  -- and allowed; an own entry without a record goes before one that another starts
  pub eighteen : refusal_of m im ≡ 18 → (records_ordered im ≡ true) × (records_allowed im ≡ true)
  pub absent : refusal_of m im ≡ 18 → own_present im ≡ false → place_of m im ≡ 0
  pub misplaced : refusal_of m im ≡ 18 → own_present im ≡ true → FirstToFail im (rec_owner_first im) (place_of m im)
  -- no other number, and no reading that is taken, gives a place
  pub others : refusal_of m im ≢ 10 → refusal_of m im ≢ 17 → refusal_of m im ≢ 18 → place_of m im ≡ 0

-- ---- one number for all three, as document 01 has it; 24 of version 2 stands behind it

abbrev pub records_good : List ℕ → Bool
records_good im = records_ordered im && (records_allowed im && (records_owned im && own_present im))

unfoldable pub refusal_as_one : Memory → List ℕ → ℕ
refusal_as_one m im = first_true ((memory_short m, 1) ∷ (frame_sentences im ++ ((not (records_good im), 10) ∷ (joins_wrong im, 24) ∷ [])))

-- the number with 17 and 18 called 10
abbrev pub as_one : ℕ → ℕ
as_one number = cond (eqb number 17 || eqb number 18) 10 number

pub record RecordRefusals : Type 0 where
  pub places : (m : Memory) (im : List ℕ) → Places m im
  pub together : (m : Memory) (im : List ℕ) → as_one (refusal_of m im) ≡ refusal_as_one m im
