-- What reading asks of the memory and of the image, and what it leaves and answers.
use Rattle.std.specs.Prelude.{ℕ, ◌≤◌, cond, List, length}
use Rattle.model.specs.Memory.{Memory, state_length, tables_length}
use Rattle.model.specs.Image.{loaded}
use Rattle.model.specs.Refusals.{joins_wrong}
use Rattle.model.proofs.LoadingIsSound.{GoodImage}
use Rattle.state.specs.Lent.{memory}
use Rattle.image_fields.specs.Parts.{CountsRight}

-- 1 and 3 to 18 do not refuse: the memory is long enough, and what the image has of either version is right
pub record Reads (s t im : List ℕ) : Type 0 where
  pub state : state_length ≤ length s
  pub tables : tables_length ≤ length t
  pub counts : CountsRight im
  pub good : GoodImage im

-- the memory that reading leaves, the same where 24 refuses
abbrev pub read_memory : List ℕ → List ℕ → List ℕ → Memory
read_memory s t im = cond (joins_wrong im) (memory s t) (loaded s t im)

-- its answer
abbrev pub read_answer : List ℕ → ℕ
read_answer im = cond (joins_wrong im) 24 0
