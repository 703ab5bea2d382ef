-- `measure::joins`: each turn adds one for a node that is not in system. Assumes nothing.
use Rattle.std.proofs.Common.{sym, arith}
use Rattle.model.specs.Loops.{node}
use Rattle.model.specs.Image.{under_way}
use Rattle.model.proofs.Loops.{count_zero}
use Rattle.image_writing.proofs.CountLaws.{count_goes}
use Rattle.image_writing.proofs.measure.joins.Goals as goal

pub loop-x-init : goal.loop-x-init
loop-x-init c = (omega arith, sym (count_zero (node (under_way c.args.network.now.state.now))))

pub loop-x-preserved : goal.loop-x-preserved
loop-x-preserved c =
    count_goes (under_way c.args.network.now.state.now) _ _ _ _ (omega arith) c.loop-x.invariant.1 c.from-count.ensures c.is_under_way.ensures
