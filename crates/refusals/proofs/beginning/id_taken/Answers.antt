-- `id_taken`: the test of each node. Assumes nothing.
use Rattle.std.proofs.Common.{rules}
use Rattle.model.specs.Refusals.{has_id}
use Rattle.refusals.proofs.AnyNode.{any_of_nodes}
use Rattle.refusals.proofs.beginning.id_taken.Goals as goal

pub returns : goal.returns
returns c = any_of_nodes _ _ _ _ (has_id c.args.network.now.state.now c.args.id) _ c.any.ensures.ran c.nodes.ensures (λ x b q k. search rules)
