-- `lookup`: refused, or the lookup of the sound state. Assumes nothing.
use Rattle.model.specs.Calls.{lookup_call}
use Rattle.engine.proofs.Laws.{refused_by, looked_up}
use Rattle.engine.proofs.lookup.lookup.Goals as goal

pub returns-in_err-network : goal.returns-in_err-network
unfolding lookup_call
returns-in_err-network c = refused_by _ _ c.from_residual.ensures _ _ 3 _ _ c.in_err-network.ensures.refusal _

pub returns : goal.returns
returns c =
    let j = c.in_ok-network.ensures in
    looked_up _ _ _ _ j.ok _ _ _ _ _ _ j.refusal j.ends.0.0 j.ends.1.0 c.lookup.ensures
