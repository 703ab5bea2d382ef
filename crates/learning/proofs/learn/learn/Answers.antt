-- `learn`: below the floor nothing changes, so the loop begins there with the levels below it done. Assumes nothing.
use Rattle.std.proofs.Common.{refl, arith}
use Rattle.model.proofs.Loops.{each_step}
use Rattle.model.proofs.TableSteps.{learn_starts}
use Rattle.learning.proofs.Levels.{learn_stops}
use Rattle.learning.proofs.learn.learn.Goals as goal

pub loop-i-init : goal.loop-i-init
loop-i-init c = (search learn_starts, λ h. refl)

pub loop-i-preserved : goal.loop-i-preserved
loop-i-preserved c = (search each_step, λ h. absurd (omega arith))

pub returns : goal.returns
returns c =
    learn_stops _ _ _ _ _ _ _ _ c.floor-floor.ensures c.suffix-suffix.ensures c.loop-i.invariant.0 c.loop-i.auto.i-end c.loop-i.invariant.1 c.loop-i-test.false
