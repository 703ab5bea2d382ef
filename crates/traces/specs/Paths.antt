-- One path of a trace, as the code holds it: its number from 0, where its count stands, and how many
-- places it has. And the places and steps of it that fail.
use Rattle.std.specs.Prelude.{ℕ, ◌+◌, ◌≤◌, ◌<◌, ◌≡◌, Bool, not, List, length}
use Rattle.model.specs.Traces.{path_start, place_count, place_at, place_named, step_allowed}
use Rattle.model.proofs.Status.{IsNode}

-- the path stands in the trace, with its places
pub record Stands (trace : List ℕ) (p start n : ℕ) : Type 0 where
  pub number : p < 255
  pub at : start ≡ path_start trace p
  pub places : n ≡ place_count trace p
  pub least : 1 ≤ n
  pub most : n ≤ 9
  pub within : start + n < length trace

-- each place of it has a node
pub record PathNamed (s trace : List ℕ) (p n : ℕ) : Type 0 where
  pub nodes : (k : ℕ) → k < n → IsNode s (place_at trace p k)

-- a place that has none, and a step that is not allowed
abbrev pub unnamed : List ℕ → List ℕ → ℕ → ℕ → Bool
unnamed s trace p k = not (place_named s trace p k)

abbrev pub forbidden : List ℕ → List ℕ → List ℕ → ℕ → ℕ → Bool
forbidden s t trace p k = not (step_allowed s t trace p k)
