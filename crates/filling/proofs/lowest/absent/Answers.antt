-- `lowest::absent`: the nodes in the slots before `k` are removed. Assumes nothing.
use Rattle.filling.proofs.SetLaws.{rest_start, rest_goes}
use Rattle.filling.proofs.lowest.absent.Goals as goal

pub loop-k-init : goal.loop-k-init
loop-k-init c = rest_start _ _ _ _

pub loop-k-preserved : goal.loop-k-preserved
loop-k-preserved c = search rest_goes
