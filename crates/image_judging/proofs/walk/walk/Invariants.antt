use mathlib.Core.Path.{◌≡◌}
use Rattle.image_judging.proofs.Reading.{Walking}
use Rattle.image_judging.proofs.walk.walk.Given as goal

abbrev pub invariant-loop-r : goal.invariant-loop-r
invariant-loop-r l = (l.c.next ≡ l.r) × Walking l.named.image.bytes.now l.c l.marks.bytes
