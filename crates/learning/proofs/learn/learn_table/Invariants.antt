use Rattle.std.proofs.Common.{◌≡◌}
use Rattle.model.specs.Loops.{each_below}
use Rattle.model.specs.Learning.{learn_place}
use Rattle.learning.proofs.learn.learn_table.Given as goal

abbrev pub invariant-loop-u : goal.invariant-loop-u
invariant-loop-u l =
    l.own ≡ each_below l.u-index (learn_place l.learner.state.now l.learner.number l.theirs) l.initial.own
