use Rattle.consistency.specs.NodeSets.{Sharing}
use Rattle.consistency.proofs.having.sharing.Given as goal

abbrev pub invariant-loop-k : goal.invariant-loop-k
invariant-loop-k l = Sharing l.state l.x l.k l.nodes
