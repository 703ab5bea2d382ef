-- `holds`: the chain tests each slot below the depth. Assumes nothing.
use Rattle.std.proofs.Common.{rules}
use Rattle.model.specs.Tables.{slot_is, holds}
use Rattle.tables.proofs.Slots.{any_of_range}
use Rattle.tables.proofs.entry.holds.Goals as goal

pub returns : goal.returns
unfolding holds
returns c =
    let a = c.args in
    any_of_range _ _ _ (slot_is a.table.now a.i a.j a.u) _ c.any.ensures.ran (λ x b q k. search rules)
