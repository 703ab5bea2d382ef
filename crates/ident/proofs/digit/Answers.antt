-- `ident::digit` meets its contract: a shift by four bits a place and a mask of four bits take the digit, and from place 8 on an id of
-- 32 bits has digit 0. Assumes nothing.
use mathlib.Core.Path.{sym}
use Prim.Native.Nat.{◌*◌, ◌/◌, ◌^◌}
use native.Mathlib.Omega.{arith}
use lib.Bits.{mask_lt}
use Rattle.model.proofs.Ids.{digit_bits}
use Rattle.ident.proofs.Places.{digit_beyond}
use Rattle.ident.proofs.digit.Goals as goal

pub returns-then-i-gt-LAST_PLACE : goal.returns-then-i-gt-LAST_PLACE
returns-then-i-gt-LAST_PLACE c = (sym (digit_beyond c.args.id c.ranges.id.fits c.args.i c.if-i-gt-LAST_PLACE.true), omega arith)

pub returns : goal.returns
returns c = (digit_bits _ _, mask_lt (c.args.id / 2 ^ (4 * c.args.i)) 4)
