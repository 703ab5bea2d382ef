-- `marks`: the first of the row. Assumes nothing.
use native.Mathlib.Omega.{arith}
use borrow.Author.Rules.{rules}
use Rattle.replay_survey.proofs.Pieces.{row_length, marks_put}
use Rattle.replay_survey.proofs.lines.marks.Goals as goal

pub returns : goal.returns
returns c =
    record { put = search marks_put; upper_bound = omega (arith, row_length c.args.n (search rules)) }
