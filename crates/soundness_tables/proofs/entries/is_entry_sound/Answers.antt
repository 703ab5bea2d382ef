-- `is_entry_sound`: an entry of four empty slots is sound; else the chain asks the test of each slot. Assumes nothing.
use Rattle.std.proofs.Common.{rules, refl}
use Rattle.model.proofs.Ranges.{all_of_range}
use Rattle.soundness_tables.specs.TableFacts.{slot_exact, entry_exact}
use Rattle.soundness_tables.proofs.SlotLaws.{entry_empty}
use Rattle.soundness_tables.proofs.entries.is_entry_sound.Goals as goal

pub returns-then-empty : goal.returns-then-empty
returns-then-empty c = entry_empty _ _ _ _ _ _ c.empty.ensures c.if-empty.true

pub returns-else-empty : goal.returns-else-empty
unfolding entry_exact
returns-else-empty c =
    let row = c.args.row.now in
    let owner = row.table.owner in
    all_of_range _ _ _ _ (slot_exact owner.state.words.now owner.number row.table.bytes.now row.level c.args.j) _ c.all.ensures.ran refl (λ k b q h. search rules)
