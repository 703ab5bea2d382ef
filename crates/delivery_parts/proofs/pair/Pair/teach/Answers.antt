-- `teach`: y's table is put back with x in it, and the two still meet. Assumes nothing.
use Rattle.delivery_parts.proofs.Learned.{meets_taught}
use Rattle.delivery_parts.proofs.pair.Pair.teach.Goals as goal

pub invariant_of-self : goal.invariant_of-self
invariant_of-self c =
    record { meets = meets_taught _ _ _ _ c.args.self.now.meets _ (rw⁻¹ c.taught-theirs.ensures c.copy_out.ensures) }
