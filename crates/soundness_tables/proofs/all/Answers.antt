-- `all`: the chain asks the book's test of each node. Assumes nothing.
use Rattle.std.proofs.Common.{rules}
use Rattle.model.specs.Sound.{has_sound_table}
use Rattle.model.proofs.Ranges.{all_of_nodes}
use Rattle.soundness_tables.proofs.all.Goals as goal

pub returns : goal.returns
returns c =
    let state = c.args.state.now in
    all_of_nodes _ _ _ _ (has_sound_table state.words.now c.args.tables.now) _ c.all.ensures.ran state.settings_of.nodes (λ x b q k. search rules)
