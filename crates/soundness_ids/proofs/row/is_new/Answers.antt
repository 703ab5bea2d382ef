-- `is_new`: what is gathered is zero exactly when every id so far differs. Assumes nothing.
use Rattle.std.proofs.Common.{arith}
use Rattle.std.proofs.lemmas.Grind.{common_steps}
use Rattle.model.proofs.Zero.{or_zero}
use Rattle.soundness_ids.proofs.row.is_new.Goals as goal

pub loop-other-preserved : goal.loop-other-preserved
loop-other-preserved c = grind (arith, common_steps, or_zero)
