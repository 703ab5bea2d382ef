-- `name_nodes`: each return is a sentence of the chain. Assumes nothing.
use Rattle.model.proofs.Refusals.{sentences}
use Rattle.image_judging.specs.Judged.{names_refusal}
use Rattle.image_judging.proofs.name_nodes.Goals as goal

pub returns-then-not-ids_valid-clause-refusal : goal.returns-then-not-ids_valid-clause-refusal
unfolding names_refusal
returns-then-not-ids_valid-clause-refusal c = search sentences

pub returns-then-not-ids_different-clause-refusal : goal.returns-then-not-ids_different-clause-refusal
unfolding names_refusal
returns-then-not-ids_different-clause-refusal c = search sentences

pub returns-then-not-named-clause-refusal : goal.returns-then-not-named-clause-refusal
unfolding names_refusal
returns-then-not-named-clause-refusal c = search sentences

pub returns-clause-refusal : goal.returns-clause-refusal
unfolding names_refusal
returns-clause-refusal c = search sentences
