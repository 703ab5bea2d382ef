-- `overlay_survey`: the refusal, or the counts of the call. Assumes nothing.
use Rattle.answers.proofs.Errors.{numbered_from_one}
use Rattle.overlay.proofs.Surveying.{survey_refused, survey_taken}
use Rattle.overlay.proofs.overlay_survey.Goals as goal

pub returns-in-Ok : goal.returns-in-Ok
returns-in-Ok c = survey_taken _ _ _ _ c.in-Ok.ensures

pub returns-in-Err : goal.returns-in-Err
returns-in-Err c = survey_refused _ _ _ _ _ c.in-Err.ensures (numbered_from_one _) _ c.into.ensures
