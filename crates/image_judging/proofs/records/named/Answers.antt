-- `named`: each call of the chain is the book's test of a record. Assumes nothing.
use Rattle.std.proofs.Common.{rules}
use Rattle.model.specs.Image.{rec_nodes_good}
use Rattle.model.proofs.Ranges.{all_of_range}
use Rattle.image_judging.proofs.records.named.Goals as goal

pub returns : goal.returns
returns c =
    all_of_range _ _ _ _ (rec_nodes_good c.args.image.now.bytes.now) _ c.all.ensures.ran c.args.image.now.headed.records (λ r b q h. search rules)
