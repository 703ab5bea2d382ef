use Rattle.std.proofs.Common.{◌≤◌}
use Rattle.model.specs.Loops.{first_below}
use Rattle.model.specs.Memory.{base}
use Rattle.model.specs.Consistency.{entry_short}
use Rattle.consistency.proofs.short_digit.Given as goal

abbrev pub invariant-loop-j : goal.invariant-loop-j
invariant-loop-j l =
    l.j ≤ first_below (base l.network.state.now) (entry_short l.network.state.now l.network.tables.now l.x l.i)
