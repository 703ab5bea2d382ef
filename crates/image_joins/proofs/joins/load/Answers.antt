-- `load`: a join more each turn. Assumes nothing.
use mathlib.Core.Path.{refl}
use native.Mathlib.Omega.{arith}
use Rattle.model.proofs.Loops.{each_ends, each_loop}
use Rattle.image_joins.proofs.joins.load.Goals as goal

pub loop-q-init : goal.loop-q-init
loop-q-init c = (refl, search each_loop)

pub loop-q-preserved : goal.loop-q-preserved
loop-q-preserved c = (omega arith, search each_loop)

pub returns : goal.returns
returns c =
    let joins = c.args.sections.now.found.joins in
    each_ends _ _ _ c.loop-q.q _ c.loop-q.invariant.1 (omega (arith, joins)) (omega (arith, joins))
