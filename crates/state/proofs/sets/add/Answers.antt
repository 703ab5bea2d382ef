-- `add`: `or` with a bit adds it where it is not set. Assumes nothing.
use Rattle.model.proofs.Sets.{add_code}
use Rattle.state.proofs.sets.add.Goals as goal

pub returns : goal.returns
returns c = add_code _ _ c.requires.first c.requires.last
