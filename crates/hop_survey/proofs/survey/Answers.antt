-- `survey`: after k turns the pairs from the first k nodes are counted. Assumes nothing.
use Rattle.std.proofs.Common.{sym, subst, arith}
use Rattle.model.proofs.Loops.{each_zero, each_step, each_ends}
use Rattle.hop_survey.specs.Counted.{Room}
use Rattle.hop_survey.proofs.Counted.{rows_room, rows_are}
use Rattle.hop_survey.proofs.survey.Goals as goal

pub loop-k-init : goal.loop-k-init
loop-k-init c = each_zero _ _

pub count_from-requires-clause-room : goal.count_from-requires-clause-room
count_from-requires-clause-room c =
    let l = c.loop-k in
    subst (Room 4096) (sym l.invariant) (rows_room _ _ c.args.network.now.sound _ l.k (omega arith))

pub loop-k-preserved : goal.loop-k-preserved
loop-k-preserved c = each_step c.loop-k.k _ _ _ _ c.loop-k.invariant c.count_from.ensures

pub returns : goal.returns
returns c =
    rows_are _ _ c.args.network.now.sound _ _ (each_ends _ _ _ c.loop-k.k _ c.loop-k.invariant (omega arith) (omega arith))
