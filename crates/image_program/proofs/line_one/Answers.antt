-- `line_one`: the word and the number. Assumes nothing.
use native.Mathlib.Omega.{arith}
use Rattle.image_program.proofs.Printing.{line_one_put}
use Rattle.image_program.proofs.line_one.Goals as goal

pub returns : goal.returns
returns c =
    record { put = search line_one_put; upper_bound = omega arith }
