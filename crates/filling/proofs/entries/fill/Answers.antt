-- `entries::fill`: one addition more each turn. Assumes nothing.
use mathlib.Core.Path.{refl}
use native.Mathlib.Omega.{arith}
use Rattle.consistency.proofs.Lacking.{lack_is}
use Rattle.filling.proofs.Listing.{listed_none, once_steady, once_short, once_fits, once_goes, once_ends}
use Rattle.filling.proofs.entries.fill.Goals as goal

pub loop-init : goal.loop-init
loop-init c = (refl, refl, search lack_is, search listed_none)

pub once-end-requires : goal.once-end-requires
once-end-requires c =
    record { steady = search once_steady; short = search once_short; fits = search once_fits }

pub loop-preserved : goal.loop-preserved
loop-preserved c = (omega arith, omega arith, omega arith, search once_goes)

pub returns : goal.returns
returns c = search once_ends
