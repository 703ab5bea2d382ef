-- `all_in_system`: the test of each node. Assumes nothing.
use Rattle.std.proofs.Common.{rules}
use Rattle.model.specs.Memory.{is_in_system}
use Rattle.model.proofs.Ranges.{all_of_nodes}
use Rattle.refusals.proofs.sentences.all_in_system.Goals as goal

pub returns : goal.returns
returns c = all_of_nodes _ _ _ _ (is_in_system c.args.state.now) _ c.all.ensures.ran c.load-nodes.ensures.nodes (λ x b q k. search rules)
