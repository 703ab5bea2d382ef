-- `levels_marked`: each call of the chain is the test of a level. Assumes nothing.
use Rattle.std.proofs.Common.{rules, refl}
use Rattle.model.proofs.Ranges.{all_of_range}
use Rattle.image_judging.specs.Marks.{is_marked, levels_marked}
use Rattle.image_judging.proofs.own.OwnMarks.levels_marked.Goals as goal

pub returns : goal.returns
unfolding levels_marked
returns c =
    all_of_range _ _ _ _ (is_marked c.args.self.now.bytes c.args.x) _ c.all.ensures.ran refl (λ k b q h. search rules)
