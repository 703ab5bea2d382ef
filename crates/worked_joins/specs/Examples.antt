-- An image of version 2, with one join under way (document 02, Ticket 9), worked through by the book's definitions: docs/IMAGE.md has it byte by byte.
use Rattle.std.specs.Prelude.{ℕ, ◌≡◌, List, [], ◌∷◌, ◌++◌, replicate}
use Rattle.model.specs.Memory.{Memory, state_length, tables_length}
use Rattle.model.specs.Calls.{Outcome, found_call, read_call, begin_call, deliver_call, write_call}

-- lent memory with old contents in every place
unfoldable pub dirty : Memory
dirty = record { state = replicate state_length 9; tables = replicate tables_length 9 }

-- b 2, d 2, K 1: node 1 with id 00 is founded, and node 2 with id 01 begins its join by it
unfoldable pub joining : Memory
joining = (begin_call (found_call dirty 2 2 1 0x0).memory 0x1 1).memory

-- settings of this version, nodes and records: both nodes stand in their own entries
unfoldable pub front : ℕ → List ℕ → List ℕ
front version rest =
    4 ∷ version ∷ 2 ∷ 2 ∷ 1 ∷ 2 ∷ 0 ∷ 0 ∷ 0 ∷ 0 ∷ 1 ∷ 0 ∷ 0 ∷ 0
    ∷ 4 ∷ 0 ∷ 1 ∷ 0 ∷ 0 ∷ 1 ∷ 1 ∷ 1 ∷ 0 ∷ 1 ∷ 2 ∷ 0 ∷ 1 ∷ 2 ∷ 2 ∷ 1 ∷ 0 ∷ 2 ∷ rest

-- one join: node, status and target, no attach level, and empty sets; behind it the counts
unfoldable pub join : ℕ → ℕ → ℕ → List ℕ → List ℕ
join x status target counts =
    1 ∷ x ∷ status ∷ 0 ∷ target
    ∷ 0 ∷ 0 ∷ 0 ∷ 0 ∷ 0 ∷ 0 ∷ 0 ∷ 0
    ∷ 0 ∷ 0 ∷ 0 ∷ 0 ∷ 0 ∷ 0 ∷ 0 ∷ 0 ∷ counts

-- the image: node 2 copies from node 1 and has sent one request
unfoldable pub image : List ℕ
unfolding front join
image = front 2 (join 2 1 1 (2 ∷ 0 ∷ 0 ∷ 1 ∷ 0 ∷ []))

-- writing into memory that has two bytes more
unfoldable pub writing : ℕ → Outcome
writing version = write_call joining version (replicate 60 9)

unfoldable pub reading : List ℕ → Outcome
reading im = read_call dirty im

pub record Saved : Type 0 where
  -- 58 bytes. Excluded: the two counts exchanged; a join of node 1, which is in system; sets of another width.
  pub bytes : (writing 2).out ≡ image ++ (9 ∷ 9 ∷ [])
  pub length : (writing 2).answer ≡ 0 ∷ 58 ∷ []
  -- version 1 has no joins, and there is no version 3
  pub plain : (writing 1).answer ≡ 15 ∷ 0 ∷ []
  pub other : (writing 3).answer ≡ 4 ∷ 0 ∷ []
  -- restored, the join goes on: node 1 answers the copy request
  pub taken : (reading image).answer ≡ 0 ∷ 0 ∷ []
  pub goes_on : (deliver_call (reading image).memory 2 1).answer ≡ 0 ∷ 1 ∷ 0 ∷ 0 ∷ []

-- damaged ones: the refusal and the place
pub record Damaged : Type 0 where
  -- a join in system, one of node 3, which is no node, and one whose target is itself
  pub settled : (reading (front 2 (join 2 0 1 (2 ∷ 0 ∷ 0 ∷ 1 ∷ 0 ∷ [])))).answer ≡ 24 ∷ 0 ∷ []
  pub no_node : (reading (front 2 (join 3 1 1 (2 ∷ 0 ∷ 0 ∷ 1 ∷ 0 ∷ [])))).answer ≡ 24 ∷ 0 ∷ []
  pub itself : (reading (front 2 (join 2 1 2 (2 ∷ 0 ∷ 0 ∷ 1 ∷ 0 ∷ [])))).answer ≡ 24 ∷ 0 ∷ []
  -- counts of one node, with the length that they give; two requests, though a copying node that shares no digit with its target sent one at most
  pub fewer : (reading (front 2 (join 2 1 1 (1 ∷ 0 ∷ 0 ∷ [])))).answer ≡ 24 ∷ 0 ∷ []
  pub many : (reading (front 2 (join 2 1 1 (2 ∷ 0 ∷ 0 ∷ 2 ∷ 0 ∷ [])))).answer ≡ 24 ∷ 0 ∷ []
  -- one byte left out; another version
  pub cut : (reading (front 2 (join 2 1 1 (2 ∷ 0 ∷ 0 ∷ 1 ∷ [])))).answer ≡ 6 ∷ 0 ∷ []
  pub version : (reading (front 3 (join 2 1 1 (2 ∷ 0 ∷ 0 ∷ 1 ∷ 0 ∷ [])))).answer ≡ 4 ∷ 0 ∷ []
