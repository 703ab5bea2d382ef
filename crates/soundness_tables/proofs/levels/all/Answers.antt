-- `levels::all`: the chain asks the test of each level. Assumes nothing.
use Rattle.std.proofs.Common.{rules}
use Rattle.model.proofs.Ranges.{all_of_range}
use Rattle.soundness_tables.specs.TableFacts.{level_exact}
use Rattle.soundness_tables.proofs.levels.all.Goals as goal

pub returns : goal.returns
returns c =
    let table = c.args.table.now in
    let owner = table.owner in
    all_of_range _ _ _ _ (level_exact owner.state.words.now owner.number table.bytes.now) _ c.all.ensures.ran owner.state.settings_of.digits (λ i b q k. search rules)
