-- `place`: four pieces. Assumes nothing.
use native.Mathlib.Omega.{arith}
use Rattle.replay_entries.proofs.Texts.{place_put}
use Rattle.replay_entries.proofs.place.Goals as goal

pub returns : goal.returns
returns c =
    record { put = search place_put; upper_bound = omega arith }
