-- What a load of the lent words gives, and where a node's record stands.
use Rattle.std.specs.Prelude.{ℕ, ◌≤◌, ◌≡◌, List, length}
use Rattle.model.specs.Memory as memory
use Rattle.model.specs.Memory.{base, digits, depth, node_count, state_length}
use Rattle.state.specs.declared.record.Node.{Node}
use Rattle.state.specs.declared.settings.Settings.{Settings}

-- words 0 to 3
pub record SettingsOf (s : List ℕ) (r : Settings) : Type 0 where
  pub base : r.base ≡ base s
  pub digits : r.digits ≡ digits s
  pub depth : r.depth ≡ depth s
  pub nodes : r.nodes ≡ node_count s

-- the number of a node that can be
pub record Numbered (x : ℕ) : Type 0 where
  pub first : 1 ≤ x
  pub last : x ≤ 64

-- node x's record stands in the state
pub record Placed (s : List ℕ) (x : ℕ) : Type 0 where
  pub long : state_length ≤ length s
  pub first : 1 ≤ x
  pub last : x ≤ 64

-- a record as the book has it
abbrev pub book_node : Node → memory.Node
book_node r =
    record {
      id = r.id;
      status = r.status;
      level = r.level;
      target = r.target;
      pending = r.pending;
      notified = r.notified;
      requests = r.requests;
      notices = r.notices;
    }
