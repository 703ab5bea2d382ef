-- `write`: the sections in their order. Assumes nothing.
use Rattle.image_writing.proofs.ImageLaws.{header_fits, ids_fit, records_fit, rest_fits, written}
use Rattle.image_writing.proofs.write.Goals as goal

pub header-first-requires : goal.header-first-requires
header-first-requires c = search header_fits

pub all-at-requires : goal.all-at-requires
all-at-requires c = search ids_fit

pub records-end-requires : goal.records-end-requires
records-end-requires c = search records_fit

pub rest-requires : goal.rest-requires
rest-requires c =
    rest_fits _ _ _ _ c.requires.room _ _ c.header-first.ensures _ _ c.all-at.ensures _ _ c.records-end.ensures

pub returns : goal.returns
returns c =
    let image = written _ _ _ _ c.requires.room _ _ c.header-first.ensures _ _ c.all-at.ensures _ _ c.records-end.ensures _ _ c.rest.ensures in
    (image.0, image.1)
