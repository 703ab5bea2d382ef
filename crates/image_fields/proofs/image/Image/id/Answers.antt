-- `id`: four bytes, low first. Assumes nothing.
use Rattle.model.specs.Image.{im_id}
use native.Mathlib.Omega.{arith}
use Rattle.image_fields.proofs.image.Image.id.Goals as goal

pub returns : goal.returns
unfolding im_id
returns c = omega (arith, c.four.ensures)
