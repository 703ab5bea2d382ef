-- `counts::counts`: two bytes of the record. Assumes nothing.
use Rattle.image_writing_parts.proofs.JoinLaws.{count_bytes}
use Rattle.image_writing_parts.proofs.counts.counts.Goals as goal

pub overflow_cast-r : goal.overflow_cast-r
overflow_cast-r c = search count_bytes

pub overflow_cast-r-2 : goal.overflow_cast-r-2
overflow_cast-r-2 c = search count_bytes
