-- `deliver_notifying`: the sets, the level and both tables are the delivery's. Assumes nothing.
use mathlib.Core.Path.{refl}
use Rattle.std.proofs.Common.{rules, ◌∙◌}
use native.Mathlib.Omega.{arith}
use Rattle.delivery_parts.proofs.Readers.{meets}
use Rattle.delivery_parts.proofs.Learned.{theirs_after}
use Rattle.delivery_parts.proofs.Deliveries.{notices_few, notified_is}
use Rattle.delivery.proofs.notifying.deliver_notifying.Goals as goal

pub invariant_of-pair : goal.invariant_of-pair
invariant_of-pair c = record { meets = meets _ _ _ _ c.requires }

pub overflow_add-notices : goal.overflow_add-notices
overflow_add-notices c =
    record { fits = omega (arith, notices_few _ _ _ _ _ c.requires c.load-node.ensures) }

pub returns : goal.returns
returns c =
    let same = c.notify.ensures.same in
    notified_is _ _ _ _ c.requires _ _ _ _ _ _ _ _ c.load-node.ensures c.add-notified.ensures c.remove-left.ensures
    (search rules ∙ c.notify.ensures.notified) (theirs_after _ _ _ _ _ _ _ _ _ _ _ same.state (search rules) same.x same.y _ c.gather_theirs-pending.ensures) refl
    c.store_notifying-settled.ensures.0 c.store_notifying-settled.ensures.1
