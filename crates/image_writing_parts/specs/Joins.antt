-- What of a node's record an image has in one byte.
use Rattle.std.specs.Prelude.{◌<◌}
use Rattle.model.specs.Memory.{Node}

pub record Bytes (r : Node) : Type 0 where
  pub status : r.status < 256
  pub level : r.level < 256
  pub target : r.target < 256
  pub requests : r.requests < 256
  pub notices : r.notices < 256
