-- `measure::list`: each turn adds what the next node's entries lack. Assumes nothing.
use native.Mathlib.Omega.{arith}
use Rattle.consistency.proofs.Gathering.{readable}
use Rattle.filling.proofs.Shorts.{total_none, total_goes, measured}
use Rattle.filling.proofs.measure.list.Goals as goal

pub having-sets-requires : goal.having-sets-requires
having-sets-requires c = search readable

pub loop-k-init : goal.loop-k-init
loop-k-init c = (omega arith, total_none _)

pub loop-k-preserved : goal.loop-k-preserved
loop-k-preserved c = (omega arith, search total_goes)

pub returns : goal.returns
returns c = (search measured, omega arith)
