-- `all_marked`: each call of the chain is the test of a node. Assumes nothing.
use Rattle.std.proofs.Common.{rules, refl}
use Rattle.model.proofs.Ranges.{all_of_nodes}
use Rattle.image_judging.specs.Marks.{levels_marked}
use Rattle.image_judging.proofs.own.OwnMarks.all_marked.Goals as goal

pub returns : goal.returns
returns c =
    all_of_nodes _ _ _ _ (levels_marked c.args.self.now.bytes c.args.h.digits) _ c.all.ensures.ran refl (λ x b q k. search rules)
