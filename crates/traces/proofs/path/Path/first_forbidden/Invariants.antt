use Rattle.std.proofs.Common.{◌≤◌, ◌-◌}
use Rattle.model.specs.Loops.{first_below}
use Rattle.traces.specs.Paths.{forbidden}
use Rattle.traces.proofs.path.Path.first_forbidden.Given as goal

abbrev pub invariant-loop-k : goal.invariant-loop-k
invariant-loop-k l =
    l.k ≤ first_below (l.self.places - 1) (forbidden l.network.state.now l.network.tables.now l.self.trace.now l.self.number)
