-- `Row::is_new_at`: the chain asks the book's test of each slot. Assumes nothing.
use Rattle.std.proofs.Common.{rules, refl}
use Rattle.model.specs.Sound.{slot_differs}
use Rattle.model.proofs.Ranges.{all_of_range}
use Rattle.soundness_tables.proofs.row.Row.is_new_at.Goals as goal

pub returns : goal.returns
returns c =
    let row = c.args.self.now in
    all_of_range _ _ _ _ (slot_differs row.table.bytes.now row.level c.args.j c.args.u) _ c.all.ensures.ran refl (λ e b q k. search rules)
