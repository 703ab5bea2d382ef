-- `records`: the records, then their count before them. Assumes nothing.
use Rattle.image_writing.proofs.ImageLaws.{records_put}
use Rattle.image_writing.proofs.records.Goals as goal

pub returns : goal.returns
returns c =
    records_put _ _ _ _ _ _ _ _ c.all-end.ensures c.two.ensures
