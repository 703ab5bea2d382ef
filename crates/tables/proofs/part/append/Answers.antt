-- `append`: one byte of the table memory is stored. Assumes nothing.
use Rattle.tables.proofs.Appended.{appended}
use Rattle.tables.proofs.part.append.Goals as goal

pub returns : goal.returns
returns c = search appended
