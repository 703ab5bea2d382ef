-- `deliver`: the arm that is taken is the definition's case, and a sender that asks has one of the three statuses. Assumes nothing.
use Rattle.delivery_parts.proofs.Deliveries.{delivers, delivers_copying, delivers_waiting, delivers_notifying, other_asks_nothing, in_system_asks_nothing}
use Rattle.delivery.proofs.delivering.deliver.Goals as goal
use Rattle.delivery.proofs.delivering.deliver.Goals.{in-0-1, in_default-1}

pub deliver_copying-requires : goal.deliver_copying-requires
deliver_copying-requires c = search delivers

pub deliver_notifying-requires : goal.deliver_notifying-requires
deliver_notifying-requires c = search delivers

pub returns-in-1 : goal.returns-in-1
returns-in-1 c = search delivers_copying

pub returns-in-2 : goal.returns-in-2
returns-in-2 c = search delivers_waiting

pub returns-in-3 : goal.returns-in-3
returns-in-3 c = search delivers_notifying

pub unreachable-requires : goal.unreachable-requires
unreachable-requires c =
    elim c.in-0-1.branch [ in-0-1 w ↦ search in_system_asks_nothing | in_default-1 w ↦ search other_asks_nothing ]
