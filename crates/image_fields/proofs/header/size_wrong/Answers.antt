-- `size_wrong`: its tests are those of `length_right`. Assumes nothing.
use Rattle.std.proofs.Common.{ap, ◌∙◌, not, ne_eqb}
use Rattle.image_fields.proofs.Bytes.{differs, agrees}
use Rattle.image_fields.proofs.header.size_wrong.Goals as goal

pub returns-then-image-size : goal.returns-then-image-size
returns-then-image-size c =
    let w = c.if-image-size.true in
    ap not (ne_eqb _ _ w) ∙ differs _ _ c.requires.size_value w

pub returns-else-image-size : goal.returns-else-image-size
returns-else-image-size c = search agrees
