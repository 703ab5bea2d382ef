-- `fill`: what was added is listed in memory for every list. Assumes nothing.
use native.Mathlib.Omega.{arith}
use Rattle.replay.proofs.Turns.{list_fits}
use Rattle.replay.proofs.fills.fill.Goals as goal

pub print_all-requires : goal.print_all-requires
print_all-requires g c = omega (arith, c.blank-list.ensures.1, list_fits _ _ _ _ c.in-Filled.is c.played-played.ensures.answer_value)
