-- Demand 2, of the calls: the verdict is K-consistency (document 01, "Lookup and verdict", and report TR-07-31, Definition 3.3), and an image
-- holds a network whole (document 01, "The image"), of version 1 but for the counts (document 02, tickets 3 and 9).
use Rattle.std.specs.Prelude.{ℕ, ◌≤◌, ◌<◌, min, ◌≡◌, true, false, ◌⊎◌, List, length, get_or, take}
use Rattle.model.specs.Memory.{Memory, base, digits, depth}
use Rattle.model.specs.Nodes.{is_node}
use Rattle.model.specs.Consistency.{how_many, neighbors, KConsistent}
use Rattle.model.specs.Image.{im_version, kept}
use Rattle.model.specs.Refusals.{memory_short, state_refusal}
use Rattle.model.specs.Calls.{read_call, verdict_call, write_call}
use Rattle.model.specs.Run.{is_taken}
use Rattle.promise.specs.Fixed.{fixed}

-- ---- the verdict

-- entry (i, j) of x holds fewer nodes than it must
pub record Short (m : Memory) (x i j : ℕ) : Type 0 where
  pub node : is_node m.state x ≡ true
  pub level : i < digits m.state
  pub digit : j < base m.state
  pub few : length (neighbors m.state m.tables x i j) < min (depth m.state) (how_many m.state x i j)

-- entry (i, j) of x comes before entry (i', j') of x': by node, then level, then digit
abbrev pub Before : ℕ → ℕ → ℕ → ℕ → ℕ → ℕ → Type 0
Before x i j x' i' j' = (x < x') ⊎ ((x ≡ x') × ((i < i') ⊎ ((i ≡ i') × (j < j'))))

-- the entry is short, and no entry before it is
pub record FirstShort (m : Memory) (x i j : ℕ) : Type 0 where
  pub short : Short m x i j
  pub first : (x' i' j' : ℕ) → Before x' i' j' x i j → Short m x' i' j' → ⊥

-- what a verdict that is not refused answers
pub record VerdictIs (m : Memory) : Type 0 where
  -- yes exactly where the network is K-consistent
  pub yes : get_or (verdict_call m).answer 1 0 ≡ 1 → KConsistent m.state m.tables
  pub whole : KConsistent m.state m.tables → get_or (verdict_call m).answer 1 0 ≡ 1
  -- a no names the first entry that is short
  pub no : get_or (verdict_call m).answer 1 0 ≡ 0
      → FirstShort m (get_or (verdict_call m).answer 2 0) (get_or (verdict_call m).answer 3 0) (get_or (verdict_call m).answer 4 0)
  -- it is one or the other
  pub either : (get_or (verdict_call m).answer 1 0 ≡ 1) ⊎ (get_or (verdict_call m).answer 1 0 ≡ 0)

-- ---- images

-- a list of bytes
abbrev pub Bytes : List ℕ → Type 0
Bytes im = (a : ℕ) → get_or im a 0 < 256

-- what a writing answers as the length, and the bytes that it wrote
abbrev pub length_written : Memory → ℕ → List ℕ → ℕ
length_written m version out = get_or (write_call m version out).answer 1 0

abbrev pub written : Memory → ℕ → List ℕ → List ℕ
written m version out = take (length_written m version out) (write_call m version out).out

-- an image that reading takes, written back in its own version into memory that has room, has the same bytes
pub record ReadThenWritten (m : Memory) (im out : List ℕ) : Type 0 where
  pub taken : is_taken (write_call (read_call m im).memory (im_version im) out).answer ≡ true
  pub bytes : written (read_call m im).memory (im_version im) out ≡ im

-- a written state, read into any memory that is long enough, is the same state in every word and byte of the fixed lengths; of version 1, which has no
-- counts, but for those, which are zero (`kept`)
pub record WrittenThenRead (m m' : Memory) (version : ℕ) (out : List ℕ) : Type 0 where
  pub taken : is_taken (read_call m' (written m version out)).answer ≡ true
  pub state : fixed (read_call m' (written m version out)).memory ≡ fixed (record { state = kept version m.state; tables = m.tables })

pub record Demand2 : Type 0 where
  pub verdicts : (m : Memory) → is_taken (verdict_call m).answer ≡ true → VerdictIs m
  pub read_back : (m : Memory) (im out : List ℕ) → Bytes im → is_taken (read_call m im).answer ≡ true → length im ≤ length out
      → ReadThenWritten m im out
  pub written_back : (m m' : Memory) (version : ℕ) (out : List ℕ) → is_taken (write_call m version out).answer ≡ true → memory_short m' ≡ false
      → WrittenThenRead m m' version out
  -- OVERLAY_MOST_WRITTEN_BYTES of the header; an image of version 1 is shorter
  pub short_image : (m : Memory) (version : ℕ) (out : List ℕ) → is_taken (write_call m version out).answer ≡ true
      → length_written m version out ≤ 25226
  pub short_plain : (m : Memory) (out : List ℕ) → is_taken (write_call m 1 out).answer ≡ true → length_written m 1 out ≤ 23816
  -- and so has every image that reading takes
  pub short_read : (m : Memory) (im : List ℕ) → Bytes im → is_taken (read_call m im).answer ≡ true → length im ≤ 25226
  -- every sound state, whatever joins are under way, can be written as version 2
  pub saved : (m : Memory) (out : List ℕ) → state_refusal m ≡ 0 → 25226 ≤ length out → is_taken (write_call m 2 out).answer ≡ true
