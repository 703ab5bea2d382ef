-- `found`: the stores on cleared memory are those of `founded`. Assumes nothing.
use Rattle.join.proofs.Laws.{founded_is}
use Rattle.join.proofs.founding.found.Goals as goal

pub returns : goal.returns
returns c = search founded_is
