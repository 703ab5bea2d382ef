-- `is_pair`: its tests are the book's. Assumes nothing.
use Rattle.hop_survey.proofs.Counted.{pair_itself, pair_left}
use Rattle.hop_survey.proofs.is_pair.Goals as goal

pub returns-then-u-z : goal.returns-then-u-z
returns-then-u-z c = pair_left _ _ _ c.if-u-z.true _ c.has_either.ensures

pub returns-else-u-z : goal.returns-else-u-z
returns-else-u-z c = pair_itself _ _ _ c.if-u-z.false
