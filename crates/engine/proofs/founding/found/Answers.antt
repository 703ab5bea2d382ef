-- `found`: refused, or taken on memory that is long enough with digits in range. Assumes nothing.
use mathlib.Core.Path.{refl}
use Rattle.model.specs.Calls.{found_call}
use Rattle.model.proofs.Calls.{taken_end, work_left}
use Rattle.engine.proofs.Laws.{refused_by, founds}
use Rattle.engine.proofs.founding.found.Goals as goal

pub returns-in_err-judge : goal.returns-in_err-judge
unfolding found_call
returns-in_err-judge c = refused_by _ _ c.from_residual.ensures _ _ 0 _ _ c.in_err-judge.ensures _

pub found-requires : goal.found-requires
found-requires c =
    let r = founds _ _ _ _ _ c.in_ok-judge.ensures in
    record { state_length_in_bounds = r.0; tables_length_in_bounds = r.1.0; digits_bound = r.1.1 }

pub returns : goal.returns
unfolding found_call
returns c = taken_end _ _ _ _ _ c.in_ok-judge.ensures refl (work_left _ _ _ _ _ _ c.found.ensures refl refl)
