-- `labelled`: the label, and the number behind it. Assumes nothing.
use native.Mathlib.Omega.{arith}
use Rattle.text.proofs.Pieces.{labelled_put}
use Rattle.text.proofs.labelled.Goals as goal

pub returns : goal.returns
returns c =
    record { put = search labelled_put; upper_bound = omega arith }
