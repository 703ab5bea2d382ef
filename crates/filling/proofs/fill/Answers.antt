-- `fill`: one node more each turn. Assumes nothing.
use mathlib.Core.Path.{refl}
use native.Mathlib.Omega.{arith}
use Rattle.consistency.proofs.Gathering.{readable}
use Rattle.filling.proofs.Listing.{listed_none, listed_goes, all_steady, all_fits, all_tables, all_list, all_length}
use Rattle.filling.proofs.fill.Goals as goal

pub having-sets-requires : goal.having-sets-requires
having-sets-requires c = search readable

pub loop-k-init : goal.loop-k-init
loop-k-init c = (refl, refl, listed_none _ _ _ _ (omega arith))

pub node-end-requires : goal.node-end-requires
node-end-requires c =
    let p = c.requires in
    let l = c.loop-k in
    let n = c.load-nodes.ensures.nodes in
    let test = c.loop-k-test.true in
    record { steady = all_steady _ _ _ l.k _ _ _ _ l.invariant.2 n test p.steady; having = c.having-sets.ensures; node = record { low = omega arith; high = omega arith }; fits = all_fits _ _ _ l.k _ _ _ _ l.invariant.2 n test p.tables_in_bounds }

pub loop-k-preserved : goal.loop-k-preserved
loop-k-preserved c = (omega arith, omega arith, search listed_goes)

pub returns : goal.returns
returns c = (search all_tables, search all_list, search all_length)
