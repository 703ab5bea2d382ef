use Rattle.filling.specs.NodeSets.{Rest}
use Rattle.filling.proofs.lowest.absent.Given as goal

abbrev pub invariant-loop-k : goal.invariant-loop-k
invariant-loop-k l = Rest l.k l.table l.i l.j l.nodes l.rest
