use Rattle.std.proofs.Common.{◌≡◌, replicate}
use Rattle.model.specs.Loops.{each_below, node}
use Rattle.hop_survey.specs.Counted.{count_from}
use Rattle.hop_survey.proofs.survey.Given as goal

abbrev pub invariant-loop-k : goal.invariant-loop-k
invariant-loop-k l = l.counts ≡ each_below l.k (node (count_from l.network.state.now l.network.tables.now l.failed)) (replicate 9 0)
