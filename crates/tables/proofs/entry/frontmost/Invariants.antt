use Rattle.tables.proofs.Fronts.{Passed}
use Rattle.tables.proofs.entry.frontmost.Given as goal

abbrev pub invariant-loop-k : goal.invariant-loop-k
invariant-loop-k l = Passed l.failed l.depth l.table l.i l.j l.k
