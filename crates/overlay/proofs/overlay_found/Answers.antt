-- `overlay_found`: the refusal. Assumes nothing.
use mathlib.Core.Path.{ap, ◌∙◌}
use Rattle.state.specs.Lent.{memory}
use Rattle.engine.specs.Outcomes.{leaves}
use Rattle.overlay.proofs.Fields.{done_is}
use Rattle.overlay.proofs.overlay_found.Goals as goal

pub returns : goal.returns
returns c = ap (leaves (memory c.found.new.state c.found.new.tables)) (done_is _ _ _ c.of_call.ensures) ∙ c.found.ensures
