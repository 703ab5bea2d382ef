-- `withdraw`: the count, the zero record and the zero table are those of `withdrawn`. Assumes nothing.
use Rattle.join.proofs.Laws.{withdrawn_is}
use Rattle.join.proofs.withdrawing.withdraw.Goals as goal

pub returns : goal.returns
returns c = search withdrawn_is
