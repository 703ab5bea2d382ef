-- `survey`: the counts of a sound state, or the refusal. Assumes nothing.
use mathlib.Core.Path.{refl, ap}
use Rattle.replay_survey.specs.SurveyText.{survey_said}
use Rattle.replay_words.specs.Said.{said, taken_text}
use Rattle.replay_calls.proofs.Ones.{refused_shown, refused_says, shown_of, counted, showable}
use Rattle.replay_calls.proofs.one.survey.Goals as goal

pub returns-in_err-counts : goal.returns-in_err-counts
returns-in_err-counts c =
    record { result_after = refused_shown _ _ c.from_residual.ensures _ _ _ _ c.in_err-counts.ensures refl; says = λ file. refused_says _ _ c.from_residual.ensures _ _ _ }

pub returns : goal.returns
unfolding said taken_text
returns c =
    record { result_after = shown_of _ _ _ _ _ c.in_ok-counts.ensures (counted _ _ _ c.in_ok-counts.ensures); says = λ file. ap (λ d. survey_said d c.in_ok-counts.counts) c.digits-digits.ensures }

pub invariant_of-result : goal.invariant_of-result
invariant_of-result c = record { showable = rw c.digits-digits.ensures (showable _ _ _ c.in_ok-counts.ensures) }
