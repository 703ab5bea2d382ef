-- `ident::low_digits_equal` meets its contract: the mask leaves the low digits of the exclusive or, which are zero exactly when those of
-- the two ids are equal. Assumes nothing.
use Rattle.ident.proofs.Bits.{low_equal}
use Rattle.ident.proofs.low_digits_equal.Goals as goal

pub returns : goal.returns
returns c =
    low_equal c.args.x c.args.y c.args.i c.suffix_mask.result c.ranges.x.fits c.ranges.y.fits c.suffix_mask.ensures
