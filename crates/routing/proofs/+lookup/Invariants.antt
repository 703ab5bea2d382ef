-- each hop leaves fewer digits to match
use Rattle.std.proofs.Common.{◌-◌}
use Rattle.model.specs.Memory.{digits}
use Rattle.model.specs.Nodes.{suffix_of}
use Rattle.routing.proofs.+lookup.Given as goal

abbrev pub decreases-lookup : goal.decreases-lookup
decreases-lookup l = digits l.network.now.state.now - suffix_of l.network.now.state.now l.u l.z
