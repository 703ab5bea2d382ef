-- `lent`: the part of 512 bytes from the table's place. Assumes nothing.
use native.Mathlib.Omega.{arith}
use Rattle.model.proofs.Parts.{part_table, part_table_length}
use Rattle.tables.proofs.part.lent.Goals as goal

pub returns : goal.returns
returns c = let a = c.args in (part_table a.tables.now a.x, part_table_length a.tables.now a.x (omega arith))
