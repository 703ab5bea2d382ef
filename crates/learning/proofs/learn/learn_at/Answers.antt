-- `learn_at`: the entry holds `u`, has room, or is full. Assumes nothing.
use Rattle.model.proofs.TableSteps.{learn_at_held, learn_at_room, learn_at_full}
use Rattle.learning.proofs.learn.learn_at.Goals as goal
use Rattle.learning.proofs.learn.learn_at.Goals.{else-not-holds-via-then-not-holds+else-size-depth, else-not-holds-via-else-not-holds}

pub returns-then-size-depth : goal.returns-then-size-depth
returns-then-size-depth c = search learn_at_room

pub returns-else-not-holds : goal.returns-else-not-holds
returns-else-not-holds c =
    elim c.else-not-holds.branch [
      | else-not-holds-via-then-not-holds+else-size-depth w ↦ search learn_at_full
      | else-not-holds-via-else-not-holds w ↦ search learn_at_held
    ]
