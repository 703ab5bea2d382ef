-- `addition`: the entry, and its new neighbour. Assumes nothing.
use native.Mathlib.Omega.{arith}
use Rattle.replay_entries.proofs.Texts.{addition_put}
use Rattle.replay_entries.proofs.addition.Goals as goal

pub returns : goal.returns
returns c =
    record { put = search addition_put; upper_bound = omega arith }
