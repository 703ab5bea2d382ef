-- `send_on`: the record and x's table are the delivery's, and y's table stays. Assumes nothing.
use Rattle.std.proofs.Common.{rules, ◌∙◌}
use Rattle.delivery_parts.proofs.Readers.{meets}
use Rattle.delivery_parts.proofs.Deliveries.{requests_few, sent_on_is}
use Rattle.delivery_waiting.proofs.send_on.Goals as goal

pub invariant_of-pair : goal.invariant_of-pair
invariant_of-pair c = record { meets = meets _ _ _ _ c.requires.delivers }

pub joining_node-requires : goal.joining_node-requires
joining_node-requires c = search requests_few

pub returns : goal.returns
returns c =
    sent_on_is _ _ _ _ c.requires.delivers _ _ _ _ _ c.load-node.ensures c.requires.first_of_entry
    (search rules ∙ c.learn_from.ensures.learned) c.joining_node.ensures c.store.ensures
