-- `begin`: what is said of the public call, or its refusal. Assumes nothing.
use mathlib.Core.Path.{refl}
use Rattle.replay_words.specs.Said.{said, taken_text}
use Rattle.replay_calls.proofs.Ones.{refused_shown, refused_says, shown_of}
use Rattle.replay_calls.proofs.one.begin.Goals as goal

pub returns-in_err-node : goal.returns-in_err-node
returns-in_err-node c =
    record { result_after = refused_shown _ _ c.from_residual.ensures _ _ _ _ c.in_err-node.ensures refl; says = λ d file. refused_says _ _ c.from_residual.ensures _ _ _ }

pub returns : goal.returns
unfolding said taken_text
returns c =
    record { result_after = shown_of _ _ _ _ _ c.in_ok-node.ensures refl; says = λ d file. refl }
