-- `walk`: the cursor follows records in their order, and the marks are those of the records before it. Assumes nothing.
use Rattle.std.proofs.Common.{◌∙◌, ◌<◌, ◌+◌, sym, ap, arith}
use Rattle.model.specs.Image.{im_records}
use Rattle.image_judging.proofs.Reading.{start_held, at_cursor, step_held, own_held, level_low, ends_early, ends_late}
use Rattle.image_judging.proofs.Rules.{owner_held, owner_numbered}
use Rattle.image_judging.proofs.Marked.{marks_go}
use Rattle.image_judging.proofs.walk.walk.Goals as goal

pub loop-r-init : goal.loop-r-init
loop-r-init c =
    (ap (λ s. s.next) c.start-c.ensures, start_held _ _ _ c.start-c.ensures c.requires.unmarked)

pub returns-then-not-in_order : goal.returns-then-not-in_order
returns-then-not-in_order c =
    let i = c.loop-r.invariant in
    ends_early _ _ c.args.named.now.image.headed _ i.1.1.0 _ _ _ i.0 c.record-e.ensures.0 c.loop-r-test.true _ c.in_order.ensures c.if-not-in_order.true

pub is_own-own-requires : goal.is_own-own-requires
is_own-own-requires c =
    let w = c.args.named.now.image.headed in
    owner_held _ _ _ c.args.named.now.named (omega (arith, w.records, c.loop-r-test.true)) c.record-e.ensures.0

pub mark-requires : goal.mark-requires
mark-requires c =
    let w = c.args.named.now.image.headed in
    record {
      numbered = owner_numbered _ _ _ w.counted c.args.named.now.named (omega (arith, w.records, c.loop-r-test.true)) c.record-e.ensures.0;
      level_bound = level_low _ _ _ _ w (sym c.in_order.ensures ∙ c.if-not-in_order.false);
    }

pub loop-r-preserved : goal.loop-r-preserved
loop-r-preserved c =
    let im = c.args.named.now.image.bytes.now in
    let w = c.args.named.now.image.headed in
    let i = c.loop-r.invariant in
    let below : c.loop-r.c.next < im_records im = omega (arith, w.records, c.loop-r-test.true, i.0) in
    let o = at_cursor im _ c.loop-r.c.next _ i.0 c.record-e.ensures.0 in (
      c.judge-c.ensures.next_value ∙ ap (λ r. r + 1) i.0,
      step_held im _ _ _ below (c.judge-c.ensures.next_value, c.judge-c.ensures.follows)
          (marks_go im _ _ _ _ _ w.counted c.args.named.now.named below o
          (level_low im _ _ _ w (sym c.in_order.ensures ∙ c.if-not-in_order.false))
          (own_held im _ _ _ o c.is_own-own.ensures) i.1.1.1 c.mark.ensures),
    )

pub returns : goal.returns
returns c =
    let i = c.loop-r.invariant in
    ends_late _ _ c.args.named.now.image.headed _ i.1.1.0 _ i.1.1.1 i.1.0 (omega (arith, i.0, c.loop-r-test.false))
