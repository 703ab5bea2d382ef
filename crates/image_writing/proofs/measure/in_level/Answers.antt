-- `measure::in_level`: each turn adds the length of the next entry's records. Assumes nothing.
use Rattle.std.proofs.Common.{arith}
use Rattle.image_writing_parts.specs.Records.{records_of_level}
use Rattle.image_writing_parts.proofs.Measuring.{total_none, total_goes, total_ends}
use Rattle.image_writing.proofs.measure.in_level.Goals as goal

pub loop-j-init : goal.loop-j-init
loop-j-init c = (omega arith, search total_none)

pub loop-j-preserved : goal.loop-j-preserved
loop-j-preserved c = (omega arith, search total_goes)

pub returns : goal.returns
unfolding records_of_level
returns c = (search total_ends, omega arith)
