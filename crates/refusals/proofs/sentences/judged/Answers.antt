-- `judged`: each return is a sentence of the chain. Assumes nothing.
use Rattle.std.proofs.Common.{sym, ap, not}
use Rattle.model.proofs.Taken.{state_taken}
use Rattle.refusals.proofs.State.{state_short, state_unsound, state_good}
use Rattle.refusals.proofs.sentences.judged.Goals as goal

pub returns-then-short-clause-refusal : goal.returns-then-short-clause-refusal
returns-then-short-clause-refusal c = search state_short

pub returns-then-not-sound-clause-refusal : goal.returns-then-not-sound-clause-refusal
returns-then-not-sound-clause-refusal c = search state_unsound

pub invariant_of-result : goal.invariant_of-result
invariant_of-result c = record { sound = state_taken _ (sym (state_good _ _ c.short.ensures c.if-short.false _ c.sound.ensures (ap not c.if-not-sound.false))) }

pub returns-clause-refusal : goal.returns-clause-refusal
returns-clause-refusal c = search state_good
