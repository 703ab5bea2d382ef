-- `has`: the last bit after the shift is the quotient's remainder by 2. Assumes nothing.
use Rattle.model.proofs.Sets.{has_code}
use Rattle.state.proofs.sets.has.Goals as goal

pub returns : goal.returns
returns c = has_code _ _
