-- `put`: the first line, and the entries behind it. Assumes nothing.
use native.Mathlib.Omega.{arith}
use Rattle.replay_table.proofs.Pieces.{table_put}
use Rattle.replay_table.proofs.put.Goals as goal

pub returns : goal.returns
returns c =
    record { put = search table_put; upper_bound = omega arith }
