-- `joins_length_wrong`: its tests are those of `length_right`, of version 2. Assumes nothing.
use Rattle.image_fields.proofs.Bytes.{joins_missing, counts_gone, whole}
use Rattle.image_fields.proofs.header.joins_length_wrong.Goals as goal

pub returns-then-image-end : goal.returns-then-image-end
returns-then-image-end c = search joins_missing

pub returns-then-image-counts : goal.returns-then-image-counts
returns-then-image-counts c = search counts_gone

pub size_wrong-requires : goal.size_wrong-requires
size_wrong-requires c = search whole
