-- Traces of other routers: document 02, Ticket 8. A trace is a list of bytes: how many paths it has, and then each path, how many places it has and the
-- node at each of them, the last being the path's destination. Paths and places count from 0 here, and from 1 in what a refusal gives; step k leaves
-- place k for the next.
use Rattle.std.specs.Prelude.{ℕ, zero, suc, ◌+◌, ◌-◌, Bool, not, ◌&&◌, ◌||◌, List, [], ◌∷◌, leb, eqb, length, get_or}
use Rattle.model.specs.Loops.{all_below, any_below, first_below}
use Rattle.model.specs.Nodes.{is_node}
use Rattle.model.specs.Lookup.{hop_entry}
use Rattle.model.specs.Image.{byte_at}

-- ---- the bytes

abbrev pub path_count : List ℕ → ℕ
path_count trace = byte_at trace 0

-- where path p starts, with its count: behind the count of paths, and behind the path before it
unfoldable pub path_start : List ℕ → ℕ → ℕ
path_start trace zero = 1
path_start trace (suc p) = let start = path_start trace p in start + 1 + byte_at trace start

-- how many places path p has
abbrev pub place_count : List ℕ → ℕ → ℕ
place_count trace p = byte_at trace (path_start trace p)

-- the number at place k of path p
abbrev pub place_at : List ℕ → ℕ → ℕ → ℕ
place_at trace p k = byte_at trace (path_start trace p + 1 + k)

abbrev pub destination : List ℕ → ℕ → ℕ
destination trace p = place_at trace p (place_count trace p - 1)

-- a step leaves each place but the last
abbrev pub step_count : List ℕ → ℕ → ℕ
step_count trace p = place_count trace p - 1

-- a path has from 1 to 9 places; a count that is missing is 0
abbrev pub from_one_to_nine : ℕ → Bool
from_one_to_nine count = leb 1 count && leb count 9

abbrev pub count_right : List ℕ → ℕ → Bool
count_right trace p = from_one_to_nine (place_count trace p)

-- 22: the trace is empty, some path's count is wrong, or the trace does not end where its last path does
unfoldable pub trace_counts_wrong : List ℕ → Bool
trace_counts_wrong trace =
    eqb (length trace) 0
    || (not (all_below (path_count trace) (count_right trace)) || not (eqb (length trace) (path_start trace (path_count trace))))

-- ---- places and steps

-- not 9: a node stands at place k of path p
unfoldable pub place_named : List ℕ → List ℕ → ℕ → ℕ → Bool
place_named s trace p k = is_node s (place_at trace p k)

-- v is among some nodes
unfoldable pub among : List ℕ → ℕ → Bool
among nodes v = any_below (length nodes) (λ k. eqb (get_or nodes k 0) v)

-- not 23: a path to z may go from u to v. It does not go on past z, and v is one of the nodes among which a lookup at u finds its next hop, first or not.
unfoldable pub may_go : List ℕ → List ℕ → ℕ → ℕ → ℕ → Bool
may_go s t u v z = not (eqb u z) && among (hop_entry s t u z) v

-- of step k of path p
unfoldable pub step_allowed : List ℕ → List ℕ → List ℕ → ℕ → ℕ → Bool
step_allowed s t trace p k = may_go s t (place_at trace p k) (place_at trace p (k + 1)) (destination trace p)

-- ---- a test in every path

-- the test holds in path p: at each index below the path's size
unfoldable pub in_path : (ℕ → ℕ) → (ℕ → ℕ → Bool) → ℕ → Bool
in_path size test p = all_below (size p) (test p)

-- and in the first n paths
abbrev pub in_paths : ℕ → (ℕ → ℕ) → (ℕ → ℕ → Bool) → Bool
in_paths n size test = all_below n (in_path size test)

-- where it first fails, counted from 1: the first path in which it does, and the first index there
unfoldable pub first_fault : ℕ → (ℕ → ℕ) → (ℕ → ℕ → Bool) → List ℕ
first_fault n size test =
    let p = first_below n (λ p. not (in_path size test p)) in
    (p + 1) ∷ (first_below (size p) (λ k. not (test p k)) + 1) ∷ []

-- every place of every path has a node
abbrev pub places_named : List ℕ → List ℕ → Bool
places_named s trace = in_paths (path_count trace) (place_count trace) (place_named s trace)

-- every step of every path is allowed
abbrev pub steps_allowed : List ℕ → List ℕ → List ℕ → Bool
steps_allowed s t trace = in_paths (path_count trace) (step_count trace) (step_allowed s t trace)
