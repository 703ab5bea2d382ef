use Rattle.std.proofs.Common.{◌-◌}
use Rattle.model.specs.Memory.{digits}
use Rattle.model.specs.Nodes.{suffix_of}
use Rattle.hop_survey.proofs.Counted.{Along}
use Rattle.hop_survey.proofs.place.Given as goal

abbrev pub invariant-loop-at : goal.invariant-loop-at
invariant-loop-at l = Along l.network.state.now l.network.tables.now l.failed l.u l.z l.hops l.at

abbrev pub decreases-loop-at : goal.decreases-loop-at
decreases-loop-at l = digits l.network.state.now - suffix_of l.network.state.now l.at l.z
