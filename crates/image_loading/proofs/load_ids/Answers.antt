-- `load_ids`: an id more each turn. Assumes nothing.
use mathlib.Core.Path.{refl}
use lib.ListN.{length-set}
use Rattle.model.proofs.Loops.{each_ends, each_loop}
use Rattle.image_loading.proofs.Steps.{id_step}
use native.Mathlib.Omega.{arith}
use Rattle.image_loading.proofs.load_ids.Goals as goal

pub loop-k-init : goal.loop-k-init
loop-k-init c = (refl, search each_loop)

pub loop-k-preserved : goal.loop-k-preserved
loop-k-preserved c = (simp length-set (omega arith), search (each_loop, id_step))

pub returns : goal.returns
returns c =
    let nodes = c.args.image.now.headed.nodes in
    each_ends _ _ _ c.loop-k.k _ c.loop-k.invariant.1 (omega (arith, nodes)) (omega (arith, nodes))
