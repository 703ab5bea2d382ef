-- `short_entry`: no level before `i` has an entry that lacks a node. Assumes nothing.
use Rattle.std.proofs.Common.{◌∙◌, arith}
use Rattle.consistency.proofs.Gathering.{sharing_start, sharing_goes}
use Rattle.consistency.proofs.Judged.{alone_whole, first_short, level_goes, node_is_whole}
use Rattle.consistency.proofs.short_entry.Goals as goal

pub loop-i-init : goal.loop-i-init
loop-i-init c = record { sharing = search sharing_start; whole = omega arith }

pub returns-in-Some-clause-some : goal.returns-in-Some-clause-some
returns-in-Some-clause-some c = first_short _ _ _ _ _ c.in-Some.ensures.some (omega arith) c.loop-i.invariant.whole

pub returns-then-sharing-alone-clause-none : goal.returns-then-sharing-alone-clause-none
returns-then-sharing-alone-clause-none c =
    let l = c.loop-i in
    let more = sharing_goes _ _ l.i _ _ l.invariant.sharing c.requires.having (omega arith) _ _ _ c.id-id.ensures c.digit.ensures.0 c.among-sharing.ensures in
    alone_whole _ _ c.args.network.now.sound c.args.x c.requires.node l.i _ more (c.if-sharing-alone.true ∙ c.add-alone.ensures)
    (level_goes _ _ _ _ c.in_default.ensures.none (omega arith) l.invariant.whole)

pub loop-i-preserved : goal.loop-i-preserved
loop-i-preserved c =
    let l = c.loop-i in
    record {
      sharing = sharing_goes _ _ l.i _ _ l.invariant.sharing c.requires.having (omega arith) _ _ _ c.id-id.ensures c.digit.ensures.0 c.among-sharing.ensures;
      whole = level_goes _ _ _ _ c.in_default.ensures.none (omega arith) l.invariant.whole;
    }

pub returns-clause-none : goal.returns-clause-none
returns-clause-none c = node_is_whole _ _ _ (omega arith)
