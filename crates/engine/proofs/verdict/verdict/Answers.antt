-- `verdict`: refused, or the verdict of the sound state. Assumes nothing.
use Rattle.model.specs.Calls.{verdict_call}
use Rattle.engine.proofs.Laws.{refused_by, judged_short}
use Rattle.engine.proofs.verdict.verdict.Goals as goal

pub returns-in_err-network : goal.returns-in_err-network
unfolding verdict_call
returns-in_err-network c = refused_by _ _ c.from_residual.ensures _ _ 4 _ _ c.in_err-network.ensures.refusal _

pub returns : goal.returns
returns c = judged_short _ _ _ _ c.in_ok-network.ensures.ok _ c.in_ok-network.ensures.refusal c.verdict.ensures
