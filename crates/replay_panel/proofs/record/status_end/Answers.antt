-- `status_end`: the status and the counts between two pieces. Assumes nothing.
use native.Mathlib.Omega.{arith}
use Rattle.putting.proofs.Putting.{four_pieces}
use Rattle.replay_panel.proofs.record.status_end.Goals as goal

pub returns : goal.returns
returns c =
    record { put = search four_pieces; upper_bound = omega arith }
