-- `ids_valid`: each call of the chain is the book's test of a node. Assumes nothing.
use Rattle.std.proofs.Common.{rules}
use Rattle.model.specs.Image.{im_id_valid}
use Rattle.model.proofs.Ranges.{all_of_nodes}
use Rattle.image_fields.proofs.image.Image.ids_valid.Goals as goal

pub returns : goal.returns
returns c =
    all_of_nodes _ _ _ _ (im_id_valid c.args.self.now.bytes.now) _ c.all.ensures.ran c.args.self.now.headed.nodes (λ x b q k. search rules)
