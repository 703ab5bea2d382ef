-- What is known of an image after a group of sentences, and the parts of what refuses it. im is the image.
use Rattle.std.specs.Prelude.{ℕ, ◌≡◌, true, List, [], ◌∷◌, ◌++◌, drop}
use Rattle.model.specs.Loops.{all_below}
use Rattle.model.specs.Image.{im_records, rec_nodes_good}
use Rattle.model.specs.Refusals.{first_true, frame_sentences, record_sentences, record_place}

-- after 9: the records' node numbers are nodes'
pub record RecordsNamed (im : List ℕ) : Type 0 where
  pub nodes : all_below (im_records im) (rec_nodes_good im) ≡ true

-- 7 to 9, where nothing before them refuses
unfoldable pub names_refusal : List ℕ → ℕ
names_refusal im = first_true (drop 4 (frame_sentences im))

-- 3 to 9
unfoldable pub early_refusal : List ℕ → ℕ
early_refusal im = first_true (frame_sentences im)

-- 10, 17 and 18, where nothing before them refuses
unfoldable pub records_refusal : List ℕ → ℕ
records_refusal im = first_true (record_sentences im)

-- 3 to 10, 17 and 18: what refuses the settings, the ids and the tables of an image of either version. 24 is judged elsewhere, because it asks for the
-- state that the image gives
unfoldable pub tables_refusal : List ℕ → ℕ
tables_refusal im = first_true (frame_sentences im ++ record_sentences im)

abbrev pub answer : ℕ → ℕ → List ℕ
answer number place = number ∷ place ∷ []

-- a refusal of the image, and its place
unfoldable pub answer_of : List ℕ → ℕ → List ℕ
answer_of im number = answer number (record_place im number)
