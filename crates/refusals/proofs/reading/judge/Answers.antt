-- `judge`: 1, or what the image itself decides. Assumes nothing.
use Rattle.refusals.proofs.ReadLaws.{short_is, judged_is}
use Rattle.refusals.proofs.reading.judge.Goals as goal

pub returns-then-short : goal.returns-then-short
returns-then-short c = short_is _ _ _ c.short.ensures c.if-short.true _ c.into.ensures

pub returns : goal.returns
returns c = judged_is _ _ _ c.short.ensures c.if-short.false _ c.judge.ensures
