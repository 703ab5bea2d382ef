-- `append`: the slot at the size is where `u` goes. Assumes nothing.
use Rattle.model.specs.Tables.{append}
use Rattle.tables.proofs.entry.append.Goals as goal

pub returns : goal.returns
unfolding append
returns c = rw c.size-k.ensures.0
