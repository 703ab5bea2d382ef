-- `attach`: the state with x notifying is the one in which both learn, and the second record is what stays. Assumes nothing.
use Rattle.std.proofs.Common.{rules, ◌∙◌}
use Rattle.delivery_parts.proofs.Readers.{meets_notifying}
use Rattle.delivery_parts.proofs.Learned.{both_after}
use Rattle.delivery_parts.proofs.Deliveries.{attached_is}
use Rattle.delivery_waiting.proofs.attach.Goals as goal

pub invariant_of-pair : goal.invariant_of-pair
invariant_of-pair c =
    record { meets = meets_notifying _ _ _ _ _ _ _ _ c.requires.delivers c.start_notifying-level.ensures.1 }

pub returns : goal.returns
returns c =
    let same = c.exchange.ensures.same in
    attached_is _ _ _ _ c.requires.delivers _ _ _ _ _ _ _ _ c.load-node.ensures c.start_notifying-level.ensures.0 c.start_notifying-level.ensures.1
    (search rules ∙ c.exchange.ensures.exchanged) c.add-notified.ensures
    (both_after _ _ _ _ _ _ _ _ _ _ _ same.state (search rules) same.x same.y c.to_notify-pending.ensures) c.store_notifying-settled.ensures.0 c.store_notifying-settled.ensures.1
