-- `lowest::without`: nothing is removed for an empty slot. Assumes nothing.
use Rattle.filling.proofs.SetLaws.{without_one}
use Rattle.filling.proofs.lowest.without.Goals as goal

pub returns : goal.returns
returns c = search without_one
