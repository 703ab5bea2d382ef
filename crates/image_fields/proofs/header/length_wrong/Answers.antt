-- `length_wrong`: its tests are those of `length_right`. Assumes nothing.
use Rattle.image_fields.proofs.Bytes.{length_short, plain}
use Rattle.image_fields.proofs.header.length_wrong.Goals as goal

pub returns-then-image-start : goal.returns-then-image-start
returns-then-image-start c = search length_short

pub size_wrong-requires : goal.size_wrong-requires
size_wrong-requires c = search plain
