-- `load`: the joins, then the counts. Assumes nothing.
use Rattle.std.proofs.Common.{ap, ◌∙◌}
use Rattle.model.specs.Image.{loaded_joins}
use Rattle.image_joins.proofs.Steps.{joins_loaded}
use Rattle.image_joins.proofs.load.Goals as goal

pub returns : goal.returns
returns c =
    joins_loaded _ _ _ _ c.load.ensures c.load-2.ensures ∙ ap (λ im. loaded_joins im c.args.state.now) c.find-sections.ensures
