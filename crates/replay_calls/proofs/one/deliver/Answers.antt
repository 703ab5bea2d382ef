-- `deliver`: what is said of the public call, or its refusal. Assumes nothing.
use mathlib.Core.Path.{refl}
use Rattle.replay_words.specs.Said.{said, taken_text, deliver_text}
use Rattle.replay_calls.proofs.Ones.{refused_shown, refused_says, shown_of}
use Rattle.replay_calls.proofs.one.deliver.Goals as goal

pub returns-in_err-delivery : goal.returns-in_err-delivery
returns-in_err-delivery c =
    record { result_after = refused_shown _ _ c.from_residual.ensures _ _ _ _ c.in_err-delivery.ensures refl; says = λ d file. refused_says _ _ c.from_residual.ensures _ _ _ }

pub returns : goal.returns
unfolding said taken_text deliver_text
returns c =
    record { result_after = shown_of _ _ _ _ _ c.in_ok-delivery.ensures refl; says = λ d file. refl }
