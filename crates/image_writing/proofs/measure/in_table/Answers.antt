-- `measure::in_table`: each turn adds the length of the next level's records. Assumes nothing.
use Rattle.std.proofs.Common.{arith}
use Rattle.image_writing_parts.specs.Records.{table_records}
use Rattle.image_writing_parts.proofs.Measuring.{total_none, total_goes, total_ends}
use Rattle.image_writing.proofs.measure.in_table.Goals as goal

pub loop-i-init : goal.loop-i-init
loop-i-init c = (omega arith, search total_none)

pub loop-i-preserved : goal.loop-i-preserved
loop-i-preserved c = (omega arith, search total_goes)

pub returns : goal.returns
unfolding table_records
returns c = (search total_ends, omega arith)
