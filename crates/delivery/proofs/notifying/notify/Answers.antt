-- `notify`: x learns y's table as it is with x in it. Assumes nothing.
use Rattle.delivery_parts.proofs.Learned.{notified_is}
use Rattle.delivery.proofs.notifying.notify.Goals as goal

pub returns-clause-notified : goal.returns-clause-notified
returns-clause-notified c =
    let same = c.teach.ensures.same in
    notified_is _ _ _ _ c.args.pair.now.meets _ _ c.teach.ensures.taught (rw⁻¹ (same.state, same.x, same.y) c.learn_from.ensures.learned)
