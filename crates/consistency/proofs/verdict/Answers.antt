-- `verdict`: no node before `k + 1` has a short entry. Assumes nothing.
use Rattle.std.proofs.Common.{arith}
use Rattle.model.proofs.Loops.{first_ends}
use Rattle.model.proofs.Consistency.{verdict_yes}
use Rattle.consistency.proofs.Gathering.{readable}
use Rattle.consistency.proofs.Judged.{node_goes, verdict_at}
use Rattle.consistency.proofs.verdict.Goals as goal

pub having-having-requires : goal.having-having-requires
having-having-requires c = readable _ _ c.args.network.now.sound

pub returns-in-Some : goal.returns-in-Some
returns-in-Some c = verdict_at _ _ c.loop-k.k (omega arith) c.loop-k.invariant _ c.in-Some.ensures.some

pub loop-k-preserved : goal.loop-k-preserved
loop-k-preserved c = node_goes _ _ c.loop-k.k (omega arith) c.loop-k.invariant c.in_default.ensures.none

pub returns : goal.returns
returns c =
    let ended = c.nodes-k-end.ensures in
    verdict_yes _ _ c.loop-k.k (first_ends _ _ c.loop-k.k c.loop-k.invariant (omega arith)) (omega arith)
