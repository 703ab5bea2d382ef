-- `fill`: what is said of the public call, or its refusal. Assumes nothing.
use mathlib.Core.Path.{refl}
use Rattle.replay_words.specs.Said.{said, taken_text}
use Rattle.replay_calls.proofs.Ones.{refused_shown, refused_says, shown_of, out_of}
use Rattle.replay_calls.proofs.one.fill.Goals as goal

pub returns-in_err-additions : goal.returns-in_err-additions
returns-in_err-additions c =
    record { result_after = refused_shown _ _ c.from_residual.ensures _ _ _ _ c.in_err-additions.ensures refl; out_after = out_of _ _ _ _ c.in_err-additions.ensures; says = λ d file. refused_says _ _ c.from_residual.ensures _ _ _ }

pub returns : goal.returns
unfolding said taken_text
returns c =
    record { result_after = shown_of _ _ _ _ _ c.in_ok-additions.ensures refl; out_after = out_of _ _ _ _ c.in_ok-additions.ensures; says = λ d file. refl }
