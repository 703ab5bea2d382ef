-- `count_from`: after k turns the pairs with the first k nodes are counted. Assumes nothing.
use Rattle.std.proofs.Common.{sym, subst, arith}
use Rattle.model.proofs.Loops.{each_zero, each_step, each_ends}
use Rattle.hop_survey.specs.Counted.{Room}
use Rattle.hop_survey.proofs.Counted.{some_room, from_counted}
use Rattle.hop_survey.proofs.count_from.Goals as goal

pub loop-k-init : goal.loop-k-init
loop-k-init c = each_zero _ _

pub count_pair-requires-clause-room : goal.count_pair-requires-clause-room
count_pair-requires-clause-room c =
    let l = c.loop-k in
    subst (Room 4160) (sym l.invariant) (some_room _ _ c.args.network.now.sound _ _ c.requires.from l.k (omega arith) _ c.requires.room)

pub loop-k-preserved : goal.loop-k-preserved
loop-k-preserved c = each_step c.loop-k.k _ _ _ _ c.loop-k.invariant c.count_pair.ensures

pub returns : goal.returns
returns c =
    from_counted _ _ _ _ _ _ (each_ends _ _ _ c.loop-k.k _ c.loop-k.invariant (omega arith) (omega arith))
