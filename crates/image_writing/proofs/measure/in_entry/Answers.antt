-- `measure::in_entry`: four empty slots have no records; each turn adds the length of the next slot's record. Assumes nothing.
use Rattle.std.proofs.Common.{arith}
use Rattle.image_writing_parts.specs.Records.{entry_of}
use Rattle.image_writing_parts.proofs.Measuring.{total_none, total_goes, total_ends, slot_length}
use Rattle.image_writing_parts.proofs.SlotLaws.{entry_long}
use Rattle.image_writing.proofs.measure.in_entry.Goals as goal

pub returns-then-empty : goal.returns-then-empty
returns-then-empty c =
    let few = c.args.table.now.shape.depth in
    (entry_long _ _ _ _ _ c.empty.result few c.empty.ensures c.if-empty.true, omega arith)

pub loop-k-init : goal.loop-k-init
loop-k-init c = (omega arith, search total_none)

pub loop-k-preserved : goal.loop-k-preserved
loop-k-preserved c = (omega arith, search (total_goes, slot_length))

pub returns : goal.returns
unfolding entry_of
returns c = (search total_ends, omega arith)
