-- `number`: the digits that the library spells, put at their place. Assumes nothing.
use native.Mathlib.Omega.{arith}
use Rattle.text.proofs.Decimals.{number_put, number_short}
use Rattle.text.proofs.number.Goals as goal

pub returns : goal.returns
returns c =
    let d = c.decimal-k.ensures in
    record { put = search number_put; upper_bound = omega (arith, d.in_bounds, number_short _ _ d.len (omega arith)) }
