-- `copy_out`: the table, copied over the lent part of 512 bytes from its place. Assumes nothing.
use native.Mathlib.Omega.{arith}
use Rattle.model.proofs.Parts.{copied_out}
use Rattle.tables.proofs.part.copy_out.Goals as goal

pub returns : goal.returns
returns c =
    copied_out c.args.tables.now c.args.x (omega arith) c.args.table.now c.copy_from_slice.new.self c.copy_from_slice.ensures.after
