use Rattle.std.proofs.Common.{◌≡◌}
use Rattle.traces.specs.Walked.{Walked}
use Rattle.traces.proofs.judge.Given as goal

abbrev pub invariant-loop : goal.invariant-loop
invariant-loop l = Walked l.network.state.now l.network.tables.now l.trace l.c × (l.c.path ≡ l.counter)
