use Rattle.fill.proofs.Texts.{image_within}
use Rattle.fill.proofs.put_image.Goals as goal

pub returns-in-Ok : goal.returns-in-Ok
returns-in-Ok c = image_within _ _ _ _ 0 _ c.in-Ok.ensures
