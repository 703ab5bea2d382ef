-- `count_pair`: nothing where the two are no pair, else one more at the place of the lookup. Assumes nothing.
use Rattle.hop_survey.proofs.Counted.{pair_none, pair_differ, pair_counted}
use Rattle.hop_survey.proofs.count_pair.Goals as goal

pub place-at-requires-clause-apart : goal.place-at-requires-clause-apart
place-at-requires-clause-apart c = pair_differ _ _ _ _ c.is_pair.ensures c.if-is_pair.true

pub returns-then-is_pair : goal.returns-then-is_pair
returns-then-is_pair c = search pair_counted

pub returns-else-is_pair : goal.returns-else-is_pair
returns-else-is_pair c = search pair_none
