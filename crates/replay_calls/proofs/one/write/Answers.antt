-- `write`: what is said of the public call, or its refusal. Assumes nothing.
use mathlib.Core.Path.{refl}
use Rattle.replay_words.specs.Said.{said, taken_text}
use Rattle.replay_calls.proofs.Ones.{refused_shown, refused_says, shown_of, out_of}
use Rattle.replay_calls.proofs.one.write.Goals as goal

pub returns-in_err-bytes : goal.returns-in_err-bytes
returns-in_err-bytes c =
    record { result_value = refused_shown _ _ c.from_residual.ensures _ _ _ _ c.in_err-bytes.ensures refl; out_after = out_of _ _ _ _ c.in_err-bytes.ensures; says = λ d file. refused_says _ _ c.from_residual.ensures _ _ _ }

pub returns : goal.returns
unfolding said taken_text
returns c =
    record { result_value = shown_of _ _ _ _ _ c.in_ok-bytes.ensures refl; out_after = out_of _ _ _ _ c.in_ok-bytes.ensures; says = λ d file. refl }
