-- `counts`: two labels with their numbers. Assumes nothing.
use native.Mathlib.Omega.{arith}
use Rattle.replay_panel.proofs.Pieces.{counts_put}
use Rattle.replay_panel.proofs.record.counts.Goals as goal

pub returns : goal.returns
returns c =
    record { put = search counts_put; upper_bound = omega arith }
