-- `sound`: refused, or not. Assumes nothing.
use mathlib.Core.Path.{refl}
use Rattle.model.specs.Calls.{sound_call}
use Rattle.model.proofs.Calls.{taken_end, work_left}
use Rattle.engine.proofs.Laws.{refused_by}
use Rattle.engine.proofs.sound.sound.Goals as goal

pub returns-in_err-judged : goal.returns-in_err-judged
unfolding sound_call
returns-in_err-judged c = refused_by _ _ c.from_residual.ensures _ _ 0 _ _ c.in_err-judged.ensures.refusal _

pub returns : goal.returns
unfolding sound_call
returns c = taken_end _ _ _ _ _ c.in_ok-judged.ensures.refusal refl (work_left _ _ _ _ _ _ refl refl refl)
