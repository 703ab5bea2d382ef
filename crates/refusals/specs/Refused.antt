-- What the refusals ask, and what refuses a reading before its state is asked for.
use Rattle.std.specs.Prelude.{ℕ, ◌≤◌, List, ◌∷◌, ◌++◌, length}
use Rattle.model.specs.Memory.{Memory, state_length, node_count}
use Rattle.model.specs.Refusals.{first_true, memory_short, frame_sentences, record_sentences}

-- the records of the state's nodes stand in it
pub record NodesPlaced (s : List ℕ) : Type 0 where
  pub long : state_length ≤ length s
  pub few : node_count s ≤ 64

-- the refusal of reading by 1, or by the image's frame and records: all of its sentences but 24
unfoldable pub read_tables_refusal : Memory → List ℕ → ℕ
read_tables_refusal m im = first_true ((memory_short m, 1) ∷ (frame_sentences im ++ record_sentences im))
