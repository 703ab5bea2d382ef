-- `is_table_sound`: the rules as the code asks them are the book's. Assumes nothing.
use Rattle.std.proofs.Common.{rules}
use Rattle.soundness_tables.proofs.TableLaws.{table_by}
use Rattle.soundness_tables.proofs.is_table_sound.Goals as goal

pub returns-then-all : goal.returns-then-all
returns-then-all c =
    let table = c.args.table.now in
    table_by _ _ _ _ table.owner.state.identified table.whole (search rules)

pub returns-else-all : goal.returns-else-all
returns-else-all c =
    let table = c.args.table.now in
    table_by _ _ _ _ table.owner.state.identified table.whole (search rules)
