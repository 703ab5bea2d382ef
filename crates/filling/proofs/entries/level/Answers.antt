-- `entries::level`: one entry more each turn. Assumes nothing.
use mathlib.Core.Path.{refl}
use native.Mathlib.Omega.{arith}
use borrow.Author.Rules.{rules}
use Rattle.model.specs.Fill.{fill_level}
use Rattle.consistency.proofs.Gathering.{qualify_of}
use Rattle.filling.proofs.Listing.{listed_none, listed_goes, listed_ends, level_steady, level_fits}
use Rattle.filling.proofs.entries.level.Goals as goal

pub loop-j-init : goal.loop-j-init
loop-j-init c = (refl, refl, search listed_none)

pub invariant_of-entry : goal.invariant_of-entry
invariant_of-entry c =
    record { place = search rules; qualify = qualify_of _ _ _ _ _ c.requires.sharing c.requires.having c.requires.i_bound _ c.requires.steady.sound _ _ _ c.load-base.ensures.base c.loop-j-test.true c.among.ensures }

pub fill-end-requires-clause-steady : goal.fill-end-requires-clause-steady
fill-end-requires-clause-steady c = search level_steady

pub fill-end-requires-clause-fits : goal.fill-end-requires-clause-fits
fill-end-requires-clause-fits c = search level_fits

pub loop-j-preserved : goal.loop-j-preserved
loop-j-preserved c = (omega arith, omega arith, search listed_goes)

pub returns : goal.returns
unfolding fill_level
returns c = search listed_ends
