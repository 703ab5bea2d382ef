-- `only_below`: a word has no bit from place 64 on, and the quotient by 2 ^ n is 0 exactly below 2 ^ n. Assumes nothing.
use Rattle.model.proofs.Sets.{below_code}
use Rattle.state.proofs.sets.only_below.Goals as goal

pub returns-else-n-eq64 : goal.returns-else-n-eq64
returns-else-n-eq64 c = let a = c.args in below_code a.nodes a.n
