-- `mark`: the byte of an own entry, which lies within the marks. Assumes nothing.
use Rattle.image_judging.proofs.Marked.{mark_own, mark_other}
use Rattle.image_judging.proofs.own.OwnMarks.mark.Goals as goal

pub returns-then-own : goal.returns-then-own
returns-then-own c = search mark_own

pub returns-else-own : goal.returns-else-own
returns-else-own c = search mark_other
