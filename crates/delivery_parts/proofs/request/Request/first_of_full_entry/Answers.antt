-- `first_of_full_entry`: the entry is read at the match, with the sender's id. Assumes nothing.
use Rattle.delivery_parts.proofs.Readers.{sender_readable, receiver_readable}
use Rattle.delivery_parts.proofs.Levels.{level_at, entry_at, full_none, full_some}
use Rattle.delivery_parts.proofs.request.Request.first_of_full_entry.Goals as goal

pub load-sender-requires : goal.load-sender-requires
load-sender-requires c = search sender_readable

pub suffix-suffix-requires : goal.suffix-suffix-requires
suffix-suffix-requires c = search receiver_readable

pub has_room-requires : goal.has_room-requires
has_room-requires c = search level_at

pub first-requires : goal.first-requires
first-requires c = search entry_at

pub returns-clause-room : goal.returns-clause-room
returns-clause-room c = search full_none

pub returns-clause-full : goal.returns-clause-full
returns-clause-full c =
    full_some _ _ _ _ _ _ c.load-sender.ensures.state c.load-sender.ensures.number _ c.suffix-suffix.ensures _ c.lent-theirs.ensures.0
    _ c.has_room.ensures c.if-has_room.false _ _ c.load-sender.ensures.learner_of.id c.digit.ensures.0 _ c.first.ensures.first
