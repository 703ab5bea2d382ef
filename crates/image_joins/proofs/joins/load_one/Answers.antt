-- `load_one`: the node's record, with what the join holds, is stored again. Assumes nothing.
use Rattle.image_joins.proofs.Steps.{join_placed, join_step}
use Rattle.image_joins.proofs.joins.load_one.Goals as goal

pub load-r-requires : goal.load-r-requires
load-r-requires c =
    join_placed _ _ _ _ c.read-j.ensures c.args.sections.now.image.headed.counted c.requires.state_long c.requires.listed c.requires.q_bound

pub store-requires : goal.store-requires
store-requires c =
    join_placed _ _ _ _ c.read-j.ensures c.args.sections.now.image.headed.counted c.requires.state_long c.requires.listed c.requires.q_bound

pub returns : goal.returns
returns c = search join_step
