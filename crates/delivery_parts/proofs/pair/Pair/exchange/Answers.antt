-- `exchange`: x has learned before y's table is put back, and the two still meet. Assumes nothing.
use Rattle.delivery_parts.proofs.Learned.{exchanged_is, meets_exchanged}
use Rattle.delivery_parts.proofs.pair.Pair.exchange.Goals as goal

pub invariant_of-self : goal.invariant_of-self
invariant_of-self c =
    let same = c.teach.ensures.same in
    record {
      meets =
          rw (same.state, same.x, same.y)
          (meets_exchanged _ _ _ _ c.args.self.now.meets _
          (exchanged_is _ _ _ _ _ _ _ c.learned-before.ensures c.teach.ensures.taught (rw⁻¹ same.x c.copy_out.ensures)));
    }
