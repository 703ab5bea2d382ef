-- `survey`: refused, or the counts of the sound state. Assumes nothing.
use Rattle.model.specs.Calls.{survey_call}
use Rattle.engine.proofs.Laws.{refused_by, counted}
use Rattle.engine.proofs.survey.survey.Goals as goal

pub returns-in_err-network : goal.returns-in_err-network
unfolding survey_call
returns-in_err-network c = refused_by _ _ c.from_residual.ensures _ _ 9 _ _ c.in_err-network.ensures.refusal _

pub returns : goal.returns
returns c = counted _ _ _ _ c.in_ok-network.ensures.ok _ _ c.in_ok-network.ensures.refusal c.survey.ensures
