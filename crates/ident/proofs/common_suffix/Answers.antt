-- `ident::common_suffix` meets its contract: equal ids agree in every digit, and of two that differ a quarter of the trailing zeros of
-- the exclusive or, at most `digits`, is the common suffix. Assumes nothing.
use mathlib.Core.Path.{ap, sym, ◌∙◌}
use native.Mathlib.Nat.{le_refl}
use native.Mathlib.Omega.{arith}
use Rattle.model.specs.Ids.{common_suffix}
use Rattle.model.proofs.Ids.{suffix_self}
use Rattle.ident.proofs.Bits.{suffix_zeros}
use Rattle.ident.proofs.common_suffix.Goals as goal

pub returns-then-x-y : goal.returns-then-x-y
returns-then-x-y c =
    let d = c.args.digits in
    let x = c.args.x in
    (sym (suffix_self d x) ∙ ap (common_suffix d x) c.if-x-y.true, le_refl d)

pub returns : goal.returns
returns c = (
  c.min.ensures
      ∙ suffix_zeros c.args.digits c.args.x c.args.y c.ranges.x.fits c.ranges.y.fits c.if-x-y.false,
  omega arith,
)
