use Rattle.std.proofs.Common.{◌≤◌}
use Rattle.model.specs.Loops.{first_below, node}
use Rattle.model.specs.Memory.{node_count}
use Rattle.model.specs.Consistency.{node_short}
use Rattle.consistency.proofs.verdict.Given as goal

abbrev pub invariant-loop-k : goal.invariant-loop-k
invariant-loop-k l =
    l.k ≤ first_below (node_count l.network.state.now) (node (node_short l.network.state.now l.network.tables.now))
