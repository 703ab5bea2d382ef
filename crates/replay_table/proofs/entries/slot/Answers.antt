-- `slot`: nothing for an empty slot, else its node. Assumes nothing.
use native.Mathlib.Omega.{arith}
use Rattle.replay_table.proofs.Pieces.{slot_none, slot_some}
use Rattle.replay_table.proofs.entries.slot.Goals as goal

pub returns-then-node-eq0 : goal.returns-then-node-eq0
returns-then-node-eq0 c =
    record { put = search slot_none; upper_bound = omega arith }

pub returns : goal.returns
returns c =
    record { put = search slot_some; upper_bound = omega arith }
