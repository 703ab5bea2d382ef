-- `valid`: the chain asks the book's test of each node. Assumes nothing.
use Rattle.std.proofs.Common.{rules}
use Rattle.model.specs.Sound.{has_valid_id}
use Rattle.model.proofs.Ranges.{all_of_nodes}
use Rattle.soundness_ids.proofs.valid.Goals as goal

pub returns : goal.returns
returns c =
    all_of_nodes _ _ _ _ (has_valid_id c.args.state.now) _ c.all.ensures.ran c.requires.settings_of.nodes (λ x b q k. search rules)
