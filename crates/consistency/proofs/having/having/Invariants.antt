use Rattle.consistency.specs.NodeSets.{Having}
use Rattle.consistency.proofs.having.having.Given as goal

abbrev pub invariant-loop-k : goal.invariant-loop-k
invariant-loop-k l = Having l.state l.k l.sets
