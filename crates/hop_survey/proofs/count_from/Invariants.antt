use Rattle.std.proofs.Common.{◌≡◌}
use Rattle.model.specs.Loops.{each_below, node}
use Rattle.hop_survey.specs.Counted.{count_pair}
use Rattle.hop_survey.proofs.count_from.Given as goal

abbrev pub invariant-loop-k : goal.invariant-loop-k
invariant-loop-k l = l.counts ≡ each_below l.k (node (count_pair l.network.state.now l.network.tables.now l.failed l.u)) l.initial.counts
