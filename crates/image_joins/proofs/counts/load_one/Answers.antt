-- `load_one`: the node's record, with its counts, is stored again. Assumes nothing.
use Rattle.image_joins.proofs.Steps.{count_step}
use Rattle.image_joins.proofs.counts.load_one.Goals as goal

pub returns : goal.returns
returns c =
    count_step _ _ _ _ _ _ _ _ _ c.args.sections.now.found.counts c.byte.ensures.0 c.byte-2.ensures.0 c.load-r.ensures c.counted.ensures c.store.ensures
