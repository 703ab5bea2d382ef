-- `statuses_and_counts`: the counts are asked where each status is known to keep its rules. Assumes nothing.
use Rattle.soundness.proofs.WholeLaws.{statuses_of}
use Rattle.soundness.proofs.statuses_and_counts.Goals as goal

pub all-requires-then-all : goal.all-requires-then-all
all-requires-then-all c = statuses_of _ _ c.all.ensures c.if-all.true
