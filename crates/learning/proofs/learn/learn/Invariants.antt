use Rattle.std.proofs.Common.{◌≡◌, ◌<◌}
use Rattle.model.specs.Loops.{each_below}
use Rattle.model.specs.Learning.{learn_at}
use Rattle.learning.proofs.learn.learn.Given as goal

abbrev pub invariant-loop-i : goal.invariant-loop-i
invariant-loop-i l = (l.own ≡ each_below l.i (learn_at l.learner.state.now l.u) l.initial.own) × (l.suffix < l.floor → l.i ≡ l.floor)
