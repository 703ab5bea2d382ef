-- `line`: the label and the number, and the line end behind them. Assumes nothing.
use native.Mathlib.Omega.{arith}
use Rattle.text.proofs.Pieces.{line_put}
use Rattle.text.proofs.line.Goals as goal

pub returns : goal.returns
returns c =
    record { put = search line_put; upper_bound = omega arith }
