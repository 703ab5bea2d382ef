-- `having::sharing`: one digit more each turn. Assumes nothing.
use Rattle.std.proofs.Common.{arith}
use Rattle.consistency.proofs.Gathering.{sharing_start, sharing_goes}
use Rattle.consistency.proofs.having.sharing.Goals as goal

pub loop-k-init : goal.loop-k-init
loop-k-init c = search sharing_start

pub loop-k-preserved : goal.loop-k-preserved
loop-k-preserved c =
    let l = c.loop-k in
    sharing_goes _ _ l.k _ _ l.invariant c.requires.having (omega arith) _ _ _ c.id-id.ensures c.digit.ensures.0 c.among-nodes.ensures
