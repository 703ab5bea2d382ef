-- `measure::node`: each turn adds what the next level lacks, until nothing is lacking above. Assumes nothing.
use mathlib.Core.Path.{◌∙◌}
use native.Mathlib.Omega.{arith}
use Rattle.consistency.proofs.Gathering.{sharing_start, sharing_goes}
use Rattle.filling.specs.Short.{level_short_by}
use Rattle.filling.proofs.Shorts.{total_none, total_goes, total_alone}
use Rattle.filling.proofs.measure.node.Goals as goal

pub loop-i-init : goal.loop-i-init
loop-i-init c = (omega arith, search sharing_start, total_none _)

pub returns-then-sharing-alone : goal.returns-then-sharing-alone
returns-then-sharing-alone c =
    let l = c.loop-i in
    let more = sharing_goes _ _ l.i _ _ l.invariant.1 c.requires.having (omega arith) _ _ _ c.id-id.ensures c.digit.ensures.0 c.among-sharing.ensures in (
      total_alone _ _ c.requires.steady.sound c.args.x c.requires.node l.i _ more (c.if-sharing-alone.true ∙ c.add-alone.ensures) (omega arith) _
          (total_goes (level_short_by c.args.network.now.state.now c.args.network.now.tables.now c.args.x) l.i _ _ l.invariant.2 c.level-total.ensures.0),
      omega arith,
    )

pub loop-i-preserved : goal.loop-i-preserved
loop-i-preserved c =
    let l = c.loop-i in (
      omega arith,
      sharing_goes _ _ l.i _ _ l.invariant.1 c.requires.having (omega arith) _ _ _ c.id-id.ensures c.digit.ensures.0 c.among-sharing.ensures,
      total_goes (level_short_by c.args.network.now.state.now c.args.network.now.tables.now c.args.x) l.i _ _ l.invariant.2 c.level-total.ensures.0,
    )
