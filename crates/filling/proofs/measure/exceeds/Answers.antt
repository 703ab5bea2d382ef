-- `measure::exceeds`: no list is longer than the longest, and any other is measured. Assumes nothing.
use Rattle.std.proofs.Common.{◌∙◌, arith}
use borrow.Author.Tests.{le-ltb}
use Rattle.filling.proofs.Shorts.{never_exceeds}
use Rattle.filling.proofs.measure.exceeds.Goals as goal

pub returns-else-room-lt-LONGEST : goal.returns-else-room-lt-LONGEST
returns-else-room-lt-LONGEST c =
    le-ltb c.args.room 21504 (omega arith) ∙ never_exceeds _ _ c.requires.steady c.args.room (omega arith)
