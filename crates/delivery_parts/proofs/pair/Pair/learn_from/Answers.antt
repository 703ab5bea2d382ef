-- `learn_from`: x's table is put back with what it learned, and the two still meet. Assumes nothing.
use Rattle.delivery_parts.proofs.Learned.{meets_learned}
use Rattle.delivery_parts.proofs.pair.Pair.learn_from.Goals as goal

pub invariant_of-self : goal.invariant_of-self
invariant_of-self c =
    record { meets = meets_learned _ _ _ _ c.args.self.now.meets _ _ c.learned-own.ensures c.copy_out.ensures }
