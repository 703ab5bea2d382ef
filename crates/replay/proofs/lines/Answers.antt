-- `lines`: none is played yet, one more is, and all are.
use Rattle.std.proofs.Common.{arith, sym, ◌≡◌, ◌<◌, length}
use borrow.Author.Tests.{eqb-true, eqb-false}
use Rattle.replay.proofs.ScriptLines.{so_far_none, so_far_goes, so_far_ends, shorter}
use Rattle.replay.proofs.lines.Goals as goal

pub loop-rest-init : goal.loop-rest-init
loop-rest-init g c = (omega arith, so_far_none _ _)

pub loop-rest-preserved : goal.loop-rest-preserved
loop-rest-preserved g c =
    let some : length c.loop-rest.rest.now ≡ 0 → ⊥ = eqb-false _ 0 (sym c.loop-rest-test.ensures) in
    let first = c.first_line.ensures in
    let l : length c.first_line.result.1.now < length c.loop-rest.rest.now = rw first.behind (shorter _ (omega (arith, some))) in (
      omega (arith, c.loop-rest.invariant.0, l),
      so_far_goes _ (omega (arith, some)) _ _ _ _ _ _ c.loop-rest.invariant.1 first.line first.behind c.line-is_printed.ensures,
    )

pub returns : goal.returns
returns g c = so_far_ends _ _ _ _ (eqb-true _ 0 (sym c.loop-rest-test.ensures)) c.loop-rest.invariant.1
