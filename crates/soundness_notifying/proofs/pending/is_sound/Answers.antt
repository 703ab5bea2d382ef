-- `pending::is_sound`: the chain asks the book's test of each node. Assumes nothing.
use Rattle.std.proofs.Common.{rules}
use Rattle.model.specs.Sound.{pending_sound}
use Rattle.model.proofs.Ranges.{all_of_nodes}
use Rattle.soundness_notifying.proofs.pending.is_sound.Goals as goal

pub returns : goal.returns
returns c =
    let owner = c.args.owner.now in
    all_of_nodes _ _ _ _ (pending_sound owner.state.words.now owner.number) _ c.all.ensures.ran owner.state.settings_of.nodes (λ u b q k. search rules)
