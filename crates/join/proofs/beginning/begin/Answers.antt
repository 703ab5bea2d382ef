-- `begin`: the count, the new record and the new table are those of `begun`. Assumes nothing.
use Rattle.join.proofs.Laws.{begun_is}
use borrow.Author.Rules.{rules}
use Rattle.join.proofs.beginning.begin.Goals as goal

pub returns : goal.returns
returns c = (search begun_is, search rules)
