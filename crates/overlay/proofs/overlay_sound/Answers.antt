-- `overlay_sound`: the refusal. Assumes nothing.
use mathlib.Core.Path.{ap, ◌∙◌}
use Rattle.state.specs.Lent.{memory}
use Rattle.engine.specs.Outcomes.{leaves}
use Rattle.overlay.proofs.Fields.{done_is}
use Rattle.overlay.proofs.overlay_sound.Goals as goal

pub returns : goal.returns
returns c = ap (leaves (memory c.args.state.now c.args.tables.now)) (done_is _ _ _ c.of_call.ensures) ∙ c.sound.ensures
