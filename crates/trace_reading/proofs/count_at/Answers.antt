-- `count_at`: each test is a part of the definition's. Assumes nothing.
use Rattle.std.proofs.Common.{refl, arith}
use Rattle.trace_reading.proofs.Counts.{count_wrong, count_right, count_missing}
use Rattle.trace_reading.proofs.count_at.Goals as goal
use Rattle.trace_reading.proofs.count_at.Goals.{then-places-lt1-via-then-places-lt1, then-places-lt1-via-else-places-lt1+then-places-gt9, then-places-lt1-via-else-places-lt1+else-places-gt9+then-trace-at-2}

pub returns-then-trace-at : goal.returns-then-trace-at
returns-then-trace-at c = count_wrong _ _ (count_missing _ _ c.if-trace-at.true)

pub returns-then-places-lt1 : goal.returns-then-places-lt1
returns-then-places-lt1 c =
    count_wrong _ _
    (λ r.
    elim c.then-places-lt1.branch [
      | then-places-lt1-via-then-places-lt1 w ↦ omega (arith, r.least)
      | then-places-lt1-via-else-places-lt1+then-places-gt9 w ↦ omega (arith, r.most)
      | then-places-lt1-via-else-places-lt1+else-places-gt9+then-trace-at-2 w ↦ omega (arith, r.within)
    ])

pub returns : goal.returns
returns c =
    count_right _ _ _ refl (record { least = omega arith; most = omega arith; within = omega arith })
