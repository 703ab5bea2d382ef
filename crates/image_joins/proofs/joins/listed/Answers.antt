-- `listed`: each call of the chain is the book's test of a join. Assumes nothing.
use Rattle.std.proofs.Common.{rules}
use Rattle.model.specs.Image.{join_listed}
use Rattle.model.proofs.Ranges.{all_of_range}
use Rattle.image_joins.proofs.joins.listed.Goals as goal

pub returns : goal.returns
returns c =
    all_of_range _ _ _ _ (join_listed c.args.sections.now.image.bytes.now) _ c.all.ensures.ran c.args.sections.now.found.joins (λ q b k h. search rules)
