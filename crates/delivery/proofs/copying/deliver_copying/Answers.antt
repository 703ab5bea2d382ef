-- `deliver_copying`: the record and x's table are the delivery's, and y's table stays. Assumes nothing.
use Rattle.std.proofs.Common.{rules, ◌∙◌}
use Rattle.delivery_parts.proofs.Readers.{meets}
use Rattle.delivery_parts.proofs.Deliveries.{copied_is}
use Rattle.delivery.proofs.copying.deliver_copying.Goals as goal

pub invariant_of-pair : goal.invariant_of-pair
invariant_of-pair c = record { meets = meets _ _ _ _ c.requires }

pub returns : goal.returns
returns c = copied_is _ _ _ _ c.requires _ _ _ c.next_request-node.ensures (search rules ∙ c.learn_from.ensures.learned) c.store.ensures
