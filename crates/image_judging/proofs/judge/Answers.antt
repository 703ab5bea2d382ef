-- `judge`: 3 to 9 without a place, or what the records say. Assumes nothing.
use Rattle.std.proofs.Common.{ap, refl, ◌∙◌}
use Rattle.answers.proofs.Errors.{numbered_from_one}
use Rattle.image_judging.specs.Judged.{records_refusal, answer_of}
use Rattle.image_judging.proofs.Sentences.{placeless, early_is, late_is}
use Rattle.image_judging.proofs.judge.Goals as goal

pub returns-in_err-image : goal.returns-in_err-image
returns-in_err-image c =
    placeless _ _ c.from_residual.ensures ∙ early_is _ _ c.in_err-image.ensures.refusal (numbered_from_one _)

pub returns : goal.returns
returns c =
    late_is _ 0 c.in_ok-image.ensures.refusal refl _
    (c.judge.ensures ∙ ap (λ im. answer_of im (records_refusal im)) c.in_ok-image.ensures.ok)
