-- `attach_level`: every level from `i` to the match has room, and a full one below `i` ends the loop. Assumes nothing.
use Rattle.delivery_parts.proofs.Readers.{sender_readable, receiver_readable}
use Rattle.delivery_parts.proofs.Levels.{level_starts, level_under, level_leaves, level_ends}
use Rattle.delivery_parts.proofs.request.Request.attach_level.Goals as goal

pub load-sender-requires : goal.load-sender-requires
load-sender-requires c = search sender_readable

pub suffix-suffix-requires : goal.suffix-suffix-requires
suffix-suffix-requires c = search receiver_readable

pub loop-i-init : goal.loop-i-init
loop-i-init c = search level_starts

pub has_room-requires : goal.has_room-requires
has_room-requires c = search level_under

pub returns-then-not-has_room : goal.returns-then-not-has_room
returns-then-not-has_room c = search level_leaves

pub returns : goal.returns
returns c = search level_ends
