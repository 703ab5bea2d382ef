-- `next_request`: each arm is a case of the definition. Assumes nothing.
use Rattle.delivery_parts.proofs.Levels.{first_placed}
use Rattle.delivery_parts.proofs.Deliveries.{requests_few, asks_receiver, asks_first, waits_first}
use Rattle.delivery.proofs.copying.next_request.Goals as goal

pub joining_node-requires : goal.joining_node-requires
joining_node-requires c = search requests_few

pub returns-in-None : goal.returns-in-None
returns-in-None c = asks_receiver _ _ _ _ _ _ c.load-node.ensures c.in-None.ensures.room c.joining_node.ensures

pub status-requires : goal.status-requires
status-requires c = first_placed _ _ _ _ _ c.args.request.now.delivers c.in-Some.ensures.full.0 c.in-Some.ensures.full.1

pub joining_node-requires-then-status-eq-IN_SYSTEM : goal.joining_node-requires-then-status-eq-IN_SYSTEM
joining_node-requires-then-status-eq-IN_SYSTEM c = search requests_few

pub returns-then-status-eq-IN_SYSTEM : goal.returns-then-status-eq-IN_SYSTEM
returns-then-status-eq-IN_SYSTEM c =
    asks_first _ _ _ _ _ _ c.load-node.ensures c.in-Some.ensures.full.0 _ _ c.in-Some.ensures.full.1 c.status.ensures
    c.if-status-eq-IN_SYSTEM.true c.joining_node-then-status-eq-IN_SYSTEM.ensures

pub joining_node-requires-else-status-eq-IN_SYSTEM : goal.joining_node-requires-else-status-eq-IN_SYSTEM
joining_node-requires-else-status-eq-IN_SYSTEM c = search requests_few

pub returns-else-status-eq-IN_SYSTEM : goal.returns-else-status-eq-IN_SYSTEM
returns-else-status-eq-IN_SYSTEM c =
    waits_first _ _ _ _ _ _ c.load-node.ensures c.in-Some.ensures.full.0 _ _ c.in-Some.ensures.full.1 c.status.ensures
    c.if-status-eq-IN_SYSTEM.false c.joining_node-else-status-eq-IN_SYSTEM.ensures
