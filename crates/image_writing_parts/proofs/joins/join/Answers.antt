-- `joins::join`: nothing for a node in system, else 20 bytes. Assumes nothing.
use Rattle.image_writing_parts.proofs.JoinLaws.{node_bytes, join_none, join_room, join_some}
use Rattle.image_writing_parts.proofs.joins.join.Goals as goal

pub returns-then-r-eq-IN_SYSTEM : goal.returns-then-r-eq-IN_SYSTEM
returns-then-r-eq-IN_SYSTEM c = search join_none

pub fields-requires-clause-bytes : goal.fields-requires-clause-bytes
fields-requires-clause-bytes c = search (node_bytes, c.args.network.now.sound)

pub fields-requires-clause-room : goal.fields-requires-clause-room
fields-requires-clause-room c = search join_room

pub returns : goal.returns
returns c = search join_some
