-- `trace`: what is said of the public call, or its refusal. Assumes nothing.
use mathlib.Core.Path.{refl, ap}
use Rattle.replay_words.specs.Said.{said, taken_text, paths_text}
use Rattle.replay_calls.proofs.Ones.{refused_shown, refused_says, shown_of}
use Rattle.replay_calls.proofs.one.trace.Goals as goal

pub returns-in_err-trace : goal.returns-in_err-trace
returns-in_err-trace c =
    record { result_after = refused_shown _ _ c.from_residual.ensures _ _ _ _ c.in_err-trace.ensures refl; says = λ d. refused_says _ _ c.from_residual.ensures _ _ _ }

pub returns : goal.returns
unfolding said taken_text
returns c =
    record { result_after = shown_of _ _ _ _ _ c.in_ok-trace.ensures refl; says = λ d. ap paths_text c.path_count.ensures }
