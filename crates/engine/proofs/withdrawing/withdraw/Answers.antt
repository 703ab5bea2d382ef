-- `withdraw`: refused, or taken on a sound state. Assumes nothing.
use mathlib.Core.Path.{refl}
use Rattle.model.specs.Calls.{withdraw_call}
use Rattle.model.proofs.Calls.{taken_end, work_left}
use Rattle.engine.proofs.Laws.{refused_by, withdraws}
use Rattle.engine.proofs.withdrawing.withdraw.Goals as goal

pub returns-in_err-judge : goal.returns-in_err-judge
unfolding withdraw_call
returns-in_err-judge c = refused_by _ _ c.from_residual.ensures _ _ 0 _ _ c.in_err-judge.ensures _

pub withdraw-requires : goal.withdraw-requires
withdraw-requires c = withdraws _ _ c.in_ok-judge.ensures

pub returns : goal.returns
unfolding withdraw_call
returns c = taken_end _ _ _ _ _ c.in_ok-judge.ensures refl (work_left _ _ _ _ _ _ c.withdraw.ensures refl refl)
