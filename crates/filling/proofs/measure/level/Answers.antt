-- `measure::level`: each turn adds what the next entry lacks. Assumes nothing.
use native.Mathlib.Omega.{arith}
use Rattle.consistency.proofs.Gathering.{qualify_of}
use Rattle.consistency.proofs.Lacking.{lack_is}
use Rattle.filling.proofs.Shorts.{total_none, total_goes}
use Rattle.filling.proofs.measure.level.Goals as goal

pub loop-j-init : goal.loop-j-init
loop-j-init c = (omega arith, total_none _)

pub loop-j-preserved : goal.loop-j-preserved
loop-j-preserved c = (omega arith, search (total_goes, lack_is, qualify_of))
