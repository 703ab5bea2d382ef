use Rattle.std.proofs.Common.{◌≡◌}
use Rattle.model.specs.Loops.{each_below}
use Rattle.model.specs.Join.{gather_place}
use Rattle.learning.proofs.gather.gather.Given as goal

abbrev pub invariant-loop-u : goal.invariant-loop-u
invariant-loop-u l =
    l.gathered ≡ each_below l.u-index (gather_place l.learner.state.now l.learner.number l.level l.notified l.table) l.nodes
