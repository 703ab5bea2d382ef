use Rattle.std.proofs.Common.{rules, refl, ap, ◌∙◌}
use Rattle.model.specs.Calls.{Outcome}
use Rattle.answers.proofs.Errors.{numbered_from_one}
use Rattle.image_program.specs.Printed.{refused_line}
use Rattle.image_program.proofs.Printing.{image_refused, image_taken}
use Rattle.fill.specs.Lines.{fill_of}
use Rattle.fill.proofs.Texts.{list_fits, fills, filled_text, filled_number, refused_both, taken_both}
use Rattle.fill.proofs.judge.filled.Goals as goal

pub returns-in-Err : goal.returns-in-Err
returns-in-Err c =
    let e = c.in-Err.ensures in
    let both = refused_both _ _ _ _ e (numbered_from_one _) in
    record { text = image_refused _ _ _ _ e refused_line fill_of (numbered_from_one _); tables_after = both.0; refusal_value = both.1; listed = tt }

pub returns : goal.returns
returns c =
    let e = c.in_default.ensures in
    let f = c.fill.ensures in
    let done = fills _ _ _ _ c.fill.result c.requires f in
    let both = taken_both _ _ _ _ e refl _ _ (ap (λ (o : Outcome). o.memory) done) (filled_number _ _ _ _ c.fill.result c.requires f) in
    record {
      text = filled_text _ _ _ _ c.fill.result c.requires f ∙ image_taken _ _ _ _ e refused_line fill_of refl;
      tables_after = both.0;
      refusal_value = both.1;
      listed = list_fits _ _ _ _ c.fill.result f (search rules);
    }
