-- `all`: the chain asks the book's test of each node. Assumes nothing.
use Rattle.std.proofs.Common.{rules}
use Rattle.model.specs.Sound.{counts_sound}
use Rattle.model.proofs.Ranges.{all_of_nodes}
use Rattle.soundness_counts.proofs.all.Goals as goal

pub returns : goal.returns
returns c =
    let state = c.args.state.now in
    all_of_nodes _ _ _ _ (counts_sound state.words.now) _ c.all.ensures.ran state.settings_of.nodes (λ x b q k. search rules)
