-- What learning and gathering ask of their callers: the nodes and tables that they read. s is the state, T and Y are tables of one node, x
-- and u node numbers.
use Rattle.std.specs.Prelude.{ℕ, ◌^◌, ◌≤◌, ◌<◌, ◌≡◌, ◌≢◌, List, length, get_or}
use Rattle.model.specs.Memory.{digits, depth, id_of, state_length}
use Rattle.model.specs.Nodes.{suffix_of}
use Rattle.model.specs.Learning.{floor_of}
use Rattle.learning.specs.declared.learner.Learner.{Learner}

-- x's record stands in s, and its id has 32 bits
pub record NodeReadable (s : List ℕ) (x : ℕ) : Type 0 where
  pub long : state_length ≤ length s
  pub first : 1 ≤ x
  pub last : x ≤ 64
  pub short : id_of s x < 2 ^ 32

-- a node as it was loaded
pub record LearnerOf (s : List ℕ) (r : Learner) : Type 0 where
  pub id : r.id ≡ id_of s r.number
  pub digits : r.digits ≡ digits s
  pub depth : r.depth ≡ depth s

-- u can be read, unless it is 0, no node
abbrev pub ReadableUnless : List ℕ → ℕ → Type 0
ReadableUnless s u = u ≢ 0 → NodeReadable s u

-- every node of T can be read
pub record TableReadable (s T : List ℕ) : Type 0 where
  pub long : 512 ≤ length T
  pub nodes : (p : ℕ) → p < 512 → get_or T p 0 ≢ 0 → NodeReadable s (get_or T p 0)

-- u can be learned at level i
pub record LearnsAt (s : List ℕ) (K u i : ℕ) : Type 0 where
  pub node : NodeReadable s u
  pub depth : K ≡ depth s
  pub deep : K ≤ 4
  pub level : i < 8
  pub floor : floor_of s u ≤ i

-- the learner can learn u
pub record Learns (s : List ℕ) (r : Learner) (u : ℕ) : Type 0 where
  pub learner : LearnerOf s r
  pub deep : depth s ≤ 4
  pub node : NodeReadable s u
  pub suffix : suffix_of s r.number u < 8

-- the learner can learn every node of Y but itself
pub record LearnsTable (s : List ℕ) (r : Learner) (Y : List ℕ) : Type 0 where
  pub long : 512 ≤ length Y
  pub nodes : (p : ℕ) → p < 512 → get_or Y p 0 ≢ 0 → get_or Y p 0 ≢ r.number → Learns s r (get_or Y p 0)
