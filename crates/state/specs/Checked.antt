-- What a check of the state knows on its way, in the order in which it learns it. s is the state.
use Rattle.std.specs.Prelude.{ℕ, ◌≤◌, ◌≡◌, true, List, length}
use Rattle.model.specs.Memory.{base, digits, depth, node_count, state_length}
use Rattle.model.specs.Nodes.{all_nodes}
use Rattle.model.specs.Sound.{has_valid_id}

-- the settings and the number of nodes are in range
pub record Ranged (s : List ℕ) : Type 0 where
  pub long : state_length ≤ length s
  pub base : base s ≤ 16
  pub digits : digits s ≤ 8
  pub depth_least : 1 ≤ depth s
  pub depth : depth s ≤ 4
  pub nodes : node_count s ≤ 64

-- and the ids are valid, so that each fits 32 bits
pub record Identified (s : List ℕ) : Type 0 where
  pub ranged : Ranged s
  pub ids : all_nodes s (has_valid_id s) ≡ true
