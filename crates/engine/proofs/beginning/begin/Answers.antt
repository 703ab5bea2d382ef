-- `begin`: refused, or taken on a sound state with room. Assumes nothing.
use mathlib.Core.Path.{refl, ap, ◌∙◌}
use mathlib.Core.List.{[], ◌∷◌}
use Rattle.model.specs.Calls.{begin_call}
use Rattle.model.specs.Join.{begun}
use Rattle.model.proofs.Calls.{taken_end, work_left}
use Rattle.engine.proofs.Laws.{refused_by, begins}
use Rattle.engine.proofs.beginning.begin.Goals as goal

pub returns-in_err-g : goal.returns-in_err-g
unfolding begin_call
returns-in_err-g c = refused_by _ _ c.from_residual.ensures _ _ 1 _ _ c.in_err-g.ensures.refusal _

pub begin-requires : goal.begin-requires
begin-requires c = begins _ _ _ c.in_ok-g.ensures.refusal

pub returns : goal.returns
unfolding begin_call
returns c =
    let left = c.begin.ensures in
    taken_end _ _ _ _ _ c.in_ok-g.ensures.refusal refl
    (work_left _ _ _ _ _ _ (left.0 ∙ ap (begun c.args.state.now c.args.tables.now c.args.id) c.in_ok-g.ensures.ok) refl (ap (λ n. n ∷ []) left.1))
