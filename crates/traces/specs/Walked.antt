-- What the cursor over the paths holds.
use Rattle.std.specs.Prelude.{ℕ, ◌≤◌, ◌<◌, ◌≡◌, None, List, length}
use Rattle.model.specs.Traces.{path_start, place_count, step_count, place_named, step_allowed}
use Rattle.traces.specs.Faults.{fault_in}
use Rattle.traces.specs.declared.cursor.Cursor.{Cursor}

-- before the first path
abbrev pub started : Cursor
started = record { path = 0; at = 1; unnamed = None; forbidden = None }

-- behind paths whose counts are right: where the next starts, and the first fault of each kind
pub record Walked (s t trace : List ℕ) (c : Cursor) : Type 0 where
  pub at : c.at ≡ path_start trace c.path
  pub within : c.at ≤ length trace
  pub counts : (p : ℕ) → p < c.path → (1 ≤ place_count trace p) × (place_count trace p ≤ 9)
  pub unnamed : c.unnamed ≡ fault_in c.path (place_count trace) (place_named s trace)
  pub forbidden : c.unnamed ≡ None → c.forbidden ≡ fault_in c.path (step_count trace) (step_allowed s t trace)
