-- Traces of other routers, of the call (document 02, Ticket 8): which traces are accepted, that paths which lookups take are, and where a refusal points.
use Rattle.std.specs.Prelude.{ℕ, ◌+◌, ◌-◌, ◌≤◌, ◌<◌, ◌≡◌, ◌≢◌, Bool, true, false, List, [], ◌∷◌, ◌++◌, length, get_or}
use Rattle.model.specs.Memory.{Memory}
use Rattle.model.specs.Lookup.{hop_entry, very_hops, last_of}
use Rattle.model.specs.Traces.{path_count, path_start, place_count, step_count, place_at, destination, place_named, step_allowed}
use Rattle.model.specs.Calls.{sound_call, trace_call}
use Rattle.model.specs.Run.{is_taken}
use Rattle.promise.specs.Promise.{NodeIn}

-- the state is sound
abbrev pub IsSound : Memory → Type 0
IsSound m = is_taken (sound_call m).answer ≡ true

abbrev pub Accepts : Memory → List ℕ → Type 0
Accepts m trace = is_taken (trace_call m trace).answer ≡ true

-- ---- which traces are accepted

-- a path to z goes from u to v: it is not at z yet, and v is some node of the entry that the lookup rule names
pub record Goes (m : Memory) (u v z : ℕ) : Type 0 where
  pub before : u ≢ z
  pub slot : ℕ
  pub filled : slot < length (hop_entry m.state m.tables u z)
  pub holds : get_or (hop_entry m.state m.tables u z) slot 0 ≡ v

-- by the bytes of the trace: its counts are right, every place has a node, and every step is one that a path may go
pub record Accepted (m : Memory) (trace : List ℕ) : Type 0 where
  pub sound : IsSound m
  pub some : 1 ≤ length trace
  pub counts : (p : ℕ) → p < path_count trace → (1 ≤ place_count trace p) × (place_count trace p ≤ 9)
  pub ends : length trace ≡ path_start trace (path_count trace)
  pub nodes : (p k : ℕ) → p < path_count trace → k < place_count trace p → NodeIn m (place_at trace p k)
  pub steps : (p k : ℕ) → p < path_count trace → k + 1 < place_count trace p
      → Goes m (place_at trace p k) (place_at trace p (k + 1)) (destination trace p)

-- ---- the trace of some paths

-- each path behind the one before it, with its count
unfoldable pub paths_bytes : List (List ℕ) → List ℕ
paths_bytes [] = []
paths_bytes (path ∷ paths) = length path ∷ (path ++ paths_bytes paths)

-- behind the count of paths
unfoldable pub trace_of : List (List ℕ) → List ℕ
trace_of paths = length paths ∷ paths_bytes paths

-- a path that may stand in a trace; its last node is its destination
pub record GoodPath (m : Memory) (path : List ℕ) : Type 0 where
  pub least : 1 ≤ length path
  pub most : length path ≤ 9
  pub nodes : (k : ℕ) → k < length path → NodeIn m (get_or path k 0)
  pub steps : (k : ℕ) → k + 1 < length path → Goes m (get_or path k 0) (get_or path (k + 1) 0) (last_of path)

-- the very hops of a lookup between two nodes, with any failed set, arrived or lost
pub record OfLookup (m : Memory) (path : List ℕ) : Type 0 where
  pub from : ℕ
  pub to : ℕ
  pub failed : ℕ
  pub starts : NodeIn m from
  pub ends : NodeIn m to
  pub hops : path ≡ very_hops m.state m.tables failed from to

-- what is said holds of each of the paths
unfoldable pub Each : (List ℕ → Type 0) → List (List ℕ) → Type 0
Each Good [] = Unit
Each Good (path ∷ paths) = Good path × Each Good paths

-- ---- where a refusal points

abbrev pub refusal_of : Memory → List ℕ → ℕ
refusal_of m trace = get_or (trace_call m trace).answer 0 0

abbrev pub path_of : Memory → List ℕ → ℕ
path_of m trace = get_or (trace_call m trace).answer 1 0

abbrev pub place_of : Memory → List ℕ → ℕ
place_of m trace = get_or (trace_call m trace).answer 2 0

-- the test, which counts from 0, fails at this path and place, which count from 1, and at none before it in the trace
pub record FirstToFail (trace : List ℕ) (size : ℕ → ℕ) (test : ℕ → ℕ → Bool) (path place : ℕ) : Type 0 where
  pub path_least : 1 ≤ path
  pub path_most : path ≤ path_count trace
  pub place_least : 1 ≤ place
  pub place_most : place ≤ size (path - 1)
  pub fails : test (path - 1) (place - 1) ≡ false
  pub before : (k : ℕ) → k + 1 < place → test (path - 1) k ≡ true
  pub earlier : (p k : ℕ) → p + 1 < path → k < size p → test p k ≡ true

pub record Traces : Type 0 where
  -- a trace is accepted exactly when its bytes are as said
  pub accepted : (m : Memory) (trace : List ℕ) → Accepts m trace → Accepted m trace
  pub accepts : (m : Memory) (trace : List ℕ) → Accepted m trace → Accepts m trace
  -- the trace of some paths, exactly when each of them is good
  pub each_good : (m : Memory) (paths : List (List ℕ)) → Accepts m (trace_of paths) → Each (GoodPath m) paths
  pub good_paths : (m : Memory) (paths : List (List ℕ)) → IsSound m → Each (GoodPath m) paths → Accepts m (trace_of paths)
  -- the trace of any lookups
  pub lookups : (m : Memory) (paths : List (List ℕ)) → IsSound m → Each (OfLookup m) paths → Accepts m (trace_of paths)
  -- the trace of no paths
  pub none : (m : Memory) → IsSound m → Accepts m (0 ∷ [])
  -- 9 points at the first place that has no node
  pub nine : (m : Memory) (trace : List ℕ) → refusal_of m trace ≡ 9
      → FirstToFail trace (place_count trace) (place_named m.state trace) (path_of m trace) (place_of m trace)
  -- 23 at the first step that is not allowed; every place has a node then
  pub twenty_three : (m : Memory) (trace : List ℕ) → refusal_of m trace ≡ 23
      → ((p k : ℕ) → p < path_count trace → k < place_count trace p → NodeIn m (place_at trace p k))
      × FirstToFail trace (step_count trace) (step_allowed m.state m.tables trace) (path_of m trace) (place_of m trace)
  -- no other number, and no trace that is accepted, at anything
  pub others : (m : Memory) (trace : List ℕ) → refusal_of m trace ≢ 9 → refusal_of m trace ≢ 23 → (path_of m trace ≡ 0) × (place_of m trace ≡ 0)
