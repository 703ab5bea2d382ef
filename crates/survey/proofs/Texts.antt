-- Lines put together piece by piece, and the answers they show. Assumes nothing.
use Rattle.std.proofs.Common.{ℕ, ◌≡◌, ap, ◌∙◌, refl, List, ◌∷◌, ◌++◌, get_or}
use Rattle.model.specs.Loops.{join_below}
use Rattle.model.specs.Memory.{Memory, digits}
use Rattle.model.specs.Calls.{Outcome, survey_call}
use Rattle.answers.specs.Numbers.{number_of}
use Rattle.answers.specs.declared.error.Refusal.{Refusal}
use Rattle.answers.proofs.Errors.{numbered_from_one}
use Rattle.engine.specs.Outcomes.{leaves}
use Rattle.putting.specs.Put.{Put}
use Rattle.putting.proofs.Putting.{put_then}
use Rattle.text.specs.Ascii.{ascii}
use Rattle.text.specs.Lines.{labelled, line}
use Rattle.image_program.specs.Printed.{line_one}
use Rattle.image_program.proofs.Printing.{answer_refused, answer_taken}
use Rattle.survey.specs.Lines.{hop_line, hop_at, count_lines, survey_text, survey_of}
use Rattle.survey.specs.Reports.{report_text}
use Rattle.survey.specs.declared.report.Report.TheVariants.{Refused}

-- ---- each piece behind the one before it

module _ (o : List ℕ) (a : ℕ) (p : List ℕ) (e : ℕ) (q : List ℕ) (g : ℕ) where
  pub hop_line_put : (h pairs : ℕ) → Put o a (labelled (ascii "hops ") h) p e → Put p e (line (ascii " ") pairs) q g → Put o a (hop_line h pairs) q g
  unfolding hop_line
  hop_line_put h pairs P Q = put_then o a _ p e _ q g P Q

  pub count_lines_put : (d : ℕ) (C : List ℕ) → Put o a (join_below d (hop_at C)) p e → Put p e (line (ascii "lost ") (get_or C 8 0)) q g
      → Put o a (count_lines d C) q g
  unfolding count_lines
  count_lines_put d C P Q = put_then o a _ p e _ q g P Q

-- ---- what the survey answers on m

module _ (m : Memory) where
  pub unsurveyed : (r : Refusal) (fields : List ℕ) → leaves m (number_of r ∷ fields) ≡ survey_call m 0 → report_text (Refused r) ≡ survey_of m
  unsurveyed r fields e = answer_refused (number_of r ∷ fields) _ (numbered_from_one r) ∙ ap (λ (o : Outcome). survey_text (digits m.state) o.answer) e

  pub surveyed : (d : ℕ) (C : List ℕ) → d ≡ digits m.state → leaves m (0 ∷ C) ≡ survey_call m 0 → line_one 0 ++ count_lines d C ≡ survey_of m
  surveyed d C is e =
      ap (λ d. line_one 0 ++ count_lines d C) is ∙ answer_taken (0 ∷ C) _ refl ∙ ap (λ (o : Outcome). survey_text (digits m.state) o.answer) e
