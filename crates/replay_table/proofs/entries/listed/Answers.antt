-- `listed`: the neighbours between two pieces. Assumes nothing.
use native.Mathlib.Omega.{arith}
use Rattle.putting.proofs.Putting.{three_pieces}
use Rattle.replay_table.proofs.entries.listed.Goals as goal

pub returns : goal.returns
returns c =
    record { put = search three_pieces; upper_bound = omega arith }
