-- `entries::all`: the chain asks the test of each entry. Assumes nothing.
use Rattle.std.proofs.Common.{rules}
use Rattle.model.proofs.Ranges.{all_of_range}
use Rattle.soundness_tables.specs.TableFacts.{entry_exact}
use Rattle.soundness_tables.proofs.entries.all.Goals as goal

pub returns : goal.returns
returns c =
    let row = c.args.row.now in
    let owner = row.table.owner in
    all_of_range _ _ _ _ (entry_exact owner.state.words.now owner.number row.table.bytes.now row.level) _ c.all.ensures.ran owner.state.settings_of.base (λ j b q k. search rules)
