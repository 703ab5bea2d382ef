-- `is_new`: each call of the chain is the book's test of a node before. Assumes nothing.
use Rattle.std.proofs.Common.{rules, refl}
use Rattle.model.specs.Image.{im_id_differs}
use Rattle.model.proofs.Ranges.{all_of_range}
use Rattle.image_fields.proofs.image.Image.is_new.Goals as goal

pub returns : goal.returns
returns c =
    all_of_range _ _ _ _ (im_id_differs c.args.self.now.bytes.now c.args.x) _ c.all.ensures.ran refl (λ k b q h. search rules)
