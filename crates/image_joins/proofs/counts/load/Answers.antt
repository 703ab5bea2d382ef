-- `load`: the counts of a node more each turn. Assumes nothing.
use mathlib.Core.Path.{refl}
use native.Mathlib.Omega.{arith}
use Rattle.model.proofs.Loops.{each_ends, each_loop}
use Rattle.image_joins.proofs.counts.load.Goals as goal

pub loop-k-init : goal.loop-k-init
loop-k-init c = (refl, search each_loop)

pub loop-k-preserved : goal.loop-k-preserved
loop-k-preserved c = (omega arith, search each_loop)

pub returns : goal.returns
returns c =
    let nodes = c.args.sections.now.image.headed.nodes in
    each_ends _ _ _ c.loop-k.k _ c.loop-k.invariant.1 (omega (arith, nodes)) (omega (arith, nodes))
