-- `remove`: exclusive or with a bit that is set subtracts it. Assumes nothing.
use mathlib.Core.Path.{sym, ◌∙◌}
use Rattle.model.proofs.Sets.{remove_code, remove_none}
use Rattle.state.proofs.sets.remove.Goals as goal

pub returns-then-has : goal.returns-then-has
returns-then-has c =
    remove_code _ _ c.requires.first c.requires.last (sym c.has.ensures ∙ c.if-has.true)

pub returns : goal.returns
returns c = remove_none _ _ (sym c.has.ensures ∙ c.if-has.false)
