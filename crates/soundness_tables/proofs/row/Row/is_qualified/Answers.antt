-- `Row::is_qualified`: the low digits that are asked for are one number, which fits. Assumes nothing.
use Rattle.std.proofs.Common.{arith}
use Rattle.soundness_tables.proofs.RowLaws.{qualified_is, weight_fits, low_fits}
use Rattle.soundness_tables.proofs.row.Row.is_qualified.Goals as goal

pub overflow_mul-result : goal.overflow_mul-result
overflow_mul-result c =
    let r = c.args.self.now in
    omega (arith, weight_fits r.level r.within r.weight c.args.j r.weight_is c.requires.digit)

pub overflow_add-result : goal.overflow_add-result
overflow_add-result c =
    let r = c.args.self.now in
    omega (arith, weight_fits r.level r.within r.weight c.args.j r.weight_is c.requires.digit, low_fits r.level r.within _ r.low r.low_is)

pub returns : goal.returns
returns c =
    let r = c.args.self.now in
    qualified_is _ _ _ _ _ _ _ _ c.id.ensures r.low_is r.weight_is r.mask_is
