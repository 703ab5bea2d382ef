use Rattle.model.specs.Memory.{table_of}
use Rattle.model.specs.Nodes.{suffix_of}
use Rattle.delivery_parts.proofs.Levels.{RoomFrom}
use Rattle.delivery_parts.proofs.request.Request.attach_level.Given as goal

abbrev pub invariant-loop-i : goal.invariant-loop-i
invariant-loop-i l = RoomFrom l.self.state.now (table_of l.self.tables.now l.self.y) l.self.x (suffix_of l.self.state.now l.self.x l.self.y) l.i
