-- `image_length`: the fixed bytes, the ids, the records and the rest. Assumes nothing.
use Rattle.image_writing.proofs.ImageLaws.{measured}
use Rattle.image_writing.proofs.image_length.Goals as goal

pub returns : goal.returns
returns c = search measured
