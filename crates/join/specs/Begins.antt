-- What beginning a join asks of the memory it gets.
use Rattle.std.specs.Prelude.{ℕ, ◌≤◌, ◌<◌, List, length}
use Rattle.model.specs.Memory.{digits, node_count, state_length, tables_length}

-- one node more fits the memory
pub record Begins (s t : List ℕ) : Type 0 where
  pub state : state_length ≤ length s
  pub tables : tables_length ≤ length t
  pub digits : digits s ≤ 8
  pub room : node_count s < 64
