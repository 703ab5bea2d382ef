-- `at_place`: nothing, or what the number asks for. Assumes nothing.
use native.Mathlib.Omega.{arith}
use Rattle.replay_refusals.proofs.Texts.{no_place, place_put, step_put, record_put}
use Rattle.replay_refusals.proofs.at_place.Goals as goal

pub returns-then-first-eq0 : goal.returns-then-first-eq0
returns-then-first-eq0 c =
    record { put = no_place _ _ _ (omega arith) _ _ c.if-first-eq0.true; upper_bound = omega arith }

pub returns-in-9 : goal.returns-in-9
returns-in-9 c =
    record { put = search place_put; upper_bound = omega arith }

pub returns-in-23 : goal.returns-in-23
returns-in-23 c =
    record { put = search step_put; upper_bound = omega arith }

pub returns-in_default : goal.returns-in_default
returns-in_default c =
    record { put = search record_put; upper_bound = omega arith }
