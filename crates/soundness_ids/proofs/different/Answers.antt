-- `different`: the chain asks the test of each place in the row, which is the book's of its node. Assumes nothing.
use Rattle.std.proofs.Common.{rules, not, eqb, get_or, take, ◌∙◌}
use Rattle.std.specs.List.{list_all}
use Rattle.model.specs.Loops.{node}
use Rattle.model.specs.Memory.{node_count}
use Rattle.model.specs.Sound.{has_new_id}
use Rattle.model.proofs.Loops.{all_same}
use Rattle.model.proofs.Ranges.{all_of_range}
use Rattle.soundness_ids.proofs.Words.{row_is_new}
use Rattle.soundness_ids.proofs.different.Goals as goal

pub returns : goal.returns
returns c =
    let s = c.args.state.now.words.now in
    let ids = c.of-ids.result in
    all_of_range _ _ _ _ (λ k. list_all (λ id. not (eqb id (get_or ids k 0))) (take k ids)) _ c.all.ensures.ran c.args.state.now.settings_of.nodes (λ x b q k. search rules)
    ∙ all_same (node_count s) _ (node (has_new_id s)) (λ k l. row_is_new s ids k c.of-ids.ensures l)
