-- `is_marked`: the byte of the node and the level. Assumes nothing.
use borrow.Author.Rules.{rules}
use Rattle.image_judging.specs.Marks.{is_marked}
use Rattle.image_judging.proofs.own.OwnMarks.is_marked.Goals as goal

pub returns : goal.returns
unfolding is_marked
returns c = search rules
