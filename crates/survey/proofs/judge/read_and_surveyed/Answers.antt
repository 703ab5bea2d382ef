use Rattle.std.proofs.Common.{arith, refl, ◌∙◌}
use Rattle.answers.proofs.Errors.{numbered_from_one}
use Rattle.image_program.specs.Printed.{refused_line}
use Rattle.image_program.proofs.Printing.{memory_read, image_refused, image_taken, read_sound}
use Rattle.survey.specs.Lines.{survey_of}
use Rattle.survey.proofs.Texts.{unsurveyed, surveyed}
use Rattle.survey.proofs.judge.read_and_surveyed.Goals as goal

pub returns-in-Err : goal.returns-in-Err
returns-in-Err c =
    let e = c.in-Err.ensures in
    record { text = image_refused _ _ _ _ e refused_line survey_of (numbered_from_one _); tables_after = memory_read _ _ _ _ e }

pub returns-in-Err-survey : goal.returns-in-Err-survey
returns-in-Err-survey c =
    let e = c.in_default.ensures in
    record { text = unsurveyed _ _ _ c.in-Err-survey.ensures ∙ image_taken _ _ _ _ e refused_line survey_of refl; tables_after = memory_read _ _ _ _ e }

pub returns-in-Ok : goal.returns-in-Ok
returns-in-Ok c =
    let e = c.in_default.ensures in
    record {
      text = surveyed _ _ _ c.digits-digits.ensures c.in-Ok.ensures ∙ image_taken _ _ _ _ e refused_line survey_of refl;
      tables_after = memory_read _ _ _ _ e;
    }

pub invariant_of-result : goal.invariant_of-result
invariant_of-result c =
    let sound = read_sound _ _ _ _ c.in_default.ensures refl in
    record { few = omega (arith, c.digits-digits.ensures, sound.settings.digits_most) }
