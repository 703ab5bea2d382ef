-- `in_path`: two labels with their numbers. Assumes nothing.
use native.Mathlib.Omega.{arith}
use Rattle.replay_refusals.proofs.Texts.{path_put}
use Rattle.replay_refusals.proofs.in_path.Goals as goal

pub returns : goal.returns
returns c =
    record { put = search path_put; upper_bound = omega arith }
