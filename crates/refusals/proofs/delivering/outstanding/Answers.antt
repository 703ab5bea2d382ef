-- `outstanding`: the target of its own request, or a node of its pending set. Assumes nothing.
use Rattle.std.proofs.Common.{◌∙◌}
use Rattle.refusals.proofs.DeliverLaws.{asks_target_lem, asks_pending}
use Rattle.refusals.proofs.delivering.outstanding.Goals as goal

pub returns-then-asks_target : goal.returns-then-asks_target
returns-then-asks_target c = c.if-asks_target.true ∙ asks_target_lem _ _ _ _ c.record-node.ensures _ c.asks_target.ensures c.if-asks_target.true

pub returns-else-asks_target : goal.returns-else-asks_target
returns-else-asks_target c = asks_pending _ _ _ _ c.record-node.ensures _ c.asks_target.ensures _ c.if-asks_target.false c.has.ensures
