-- `judge`: each return is a sentence of the chain. Assumes nothing.
use Rattle.model.specs.Refusals.{found_refusal}
use Rattle.model.proofs.Refusals.{sentences}
use Rattle.refusals.proofs.founding.judge.Goals as goal

pub returns-then-short : goal.returns-then-short
unfolding found_refusal
returns-then-short c = search sentences

pub returns-then-not-settings_in_range : goal.returns-then-not-settings_in_range
unfolding found_refusal
returns-then-not-settings_in_range c = search sentences

pub returns-then-not-valid_id : goal.returns-then-not-valid_id
unfolding found_refusal
returns-then-not-valid_id c = search sentences

pub returns : goal.returns
unfolding found_refusal
returns c = search sentences
