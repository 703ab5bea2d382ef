-- `load_records`: a record more each turn. Assumes nothing.
use mathlib.Core.Path.{refl}
use Rattle.model.proofs.Loops.{each_ends, each_loop}
use Rattle.image_loading.proofs.Steps.{appends, record_step}
use native.Mathlib.Omega.{arith}
use Rattle.image_loading.proofs.load_records.Goals as goal

pub loop-r-init : goal.loop-r-init
loop-r-init c = (refl, search each_loop)

pub append-requires : goal.append-requires
append-requires c =
    appends _ _ c.requires.fills _ _ _ _ c.args.image.now.headed c.loop-r-test.true c.loop-r.invariant.0 c.loop-r.invariant.1
    c.record-e.ensures.0 c.record-e.ensures.1

pub loop-r-preserved : goal.loop-r-preserved
loop-r-preserved c =
    let step = record_step _ _ _ _ _ _ c.args.image.now.headed c.record-e.ensures.0 c.append.ensures in
    (omega arith, search (each_loop, step))

pub returns : goal.returns
returns c =
    let records = c.args.image.now.headed.records in
    each_ends _ _ _ c.loop-r.r _ c.loop-r.invariant.1 (omega (arith, records)) (omega (arith, records))
