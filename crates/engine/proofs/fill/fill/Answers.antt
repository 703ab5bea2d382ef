-- `fill`: refused, or the tables are filled and the additions listed. Assumes nothing.
use mathlib.Core.Path.{refl}
use Rattle.model.specs.Calls.{fill_call}
use Rattle.model.proofs.Calls.{taken_end}
use Rattle.engine.proofs.Laws.{refused_by, fills, filled_is}
use Rattle.engine.proofs.fill.fill.Goals as goal

pub returns-in_err-judge : goal.returns-in_err-judge
unfolding fill_call
returns-in_err-judge c = refused_by _ _ c.from_residual.ensures _ _ 1 _ _ c.in_err-judge.ensures _

pub fill-length-requires : goal.fill-length-requires
fill-length-requires c =
    let w = fills _ _ c.in_ok-judge.ensures in
    record { steady = w.0; tables_in_bounds = w.1 }

pub returns : goal.returns
unfolding fill_call
returns c =
    let work = c.fill-length.ensures in
    taken_end _ _ _ _ _ c.in_ok-judge.ensures refl (filled_is _ _ _ _ _ _ _ _ work.0 work.1 work.2 refl)
