use Rattle.std.proofs.Common.{refl, ◌∙◌}
use Rattle.answers.proofs.Errors.{numbered_from_one}
use Rattle.image_program.proofs.Printing.{memory_read, image_refused, image_taken}
use Rattle.verdict.specs.Lines.{refused_lines, verdict_of}
use Rattle.verdict.proofs.Texts.{unjudged, judged}
use Rattle.verdict.proofs.judge.read_and_judged.Goals as goal

pub returns-in-Err : goal.returns-in-Err
returns-in-Err c =
    let e = c.in-Err.ensures in
    record { text = c.unread.ensures ∙ image_refused _ _ _ _ e refused_lines verdict_of (numbered_from_one _); tables_after = memory_read _ _ _ _ e }

pub returns-in-Err-verdict : goal.returns-in-Err-verdict
returns-in-Err-verdict c =
    let e = c.in_default.ensures in
    record { text = unjudged _ _ c.in-Err-verdict.ensures ∙ image_taken _ _ _ _ e refused_lines verdict_of refl; tables_after = memory_read _ _ _ _ e }

pub returns-in-Ok : goal.returns-in-Ok
returns-in-Ok c =
    let e = c.in_default.ensures in
    record { text = c.judged.ensures ∙ judged _ _ c.in-Ok.ensures ∙ image_taken _ _ _ _ e refused_lines verdict_of refl; tables_after = memory_read _ _ _ _ e }
