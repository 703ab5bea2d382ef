-- The ids of all nodes in one row. s is the state.
use Rattle.std.specs.Prelude.{ℕ, ◌+◌, ◌<◌, ◌≤◌, ◌≡◌, List, get_or, length}
use Rattle.model.specs.Memory.{node_count, id_of}

-- the ids in one row, from node 1 on; no state has more than 64 nodes
pub record InRow (s ids : List ℕ) : Type 0 where
  pub long : node_count s ≤ length ids
  pub each : (k : ℕ) → k < node_count s → get_or ids k 0 ≡ id_of s (k + 1)
