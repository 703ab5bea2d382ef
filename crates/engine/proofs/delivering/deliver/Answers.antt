-- `deliver`: refused, or taken on a sound state with the request outstanding. Assumes nothing.
use mathlib.Core.Path.{refl}
use Rattle.model.specs.Calls.{deliver_call}
use Rattle.model.proofs.Calls.{taken_end}
use Rattle.engine.proofs.Laws.{refused_by, delivers, delivered_to}
use Rattle.engine.proofs.delivering.deliver.Goals as goal

pub returns-in_err-x : goal.returns-in_err-x
unfolding deliver_call
returns-in_err-x c = refused_by _ _ c.from_residual.ensures _ _ 3 _ _ c.in_err-x.ensures.refusal _

pub deliver-requires : goal.deliver-requires
deliver-requires c =
    let j = c.in_ok-x.ensures in
    let r = delivers _ _ _ _ _ j.refusal j.ok.0 j.ok.1 in
    record { sound = r.0; can_deliver = r.1 }

pub returns : goal.returns
unfolding deliver_call
returns c =
    let j = c.in_ok-x.ensures in
    taken_end _ _ _ _ _ j.refusal refl (delivered_to _ _ _ _ _ _ _ j.ok.0 j.ok.1 c.deliver.ensures)
