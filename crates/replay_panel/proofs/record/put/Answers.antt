-- `put`: the line of what the record and the settings hold. Assumes nothing.
use native.Mathlib.Omega.{arith}
use Rattle.replay_panel.proofs.Pieces.{id_short, record_put}
use Rattle.replay_panel.proofs.record.put.Goals as goal

pub hex-third-requires : goal.hex-third-requires
hex-third-requires c =
    record { width_in_bounds = omega arith; le_width = omega arith; width_bound = omega arith; n_bound = search id_short }

pub returns : goal.returns
returns c =
    record { put = search record_put; upper_bound = omega arith }
