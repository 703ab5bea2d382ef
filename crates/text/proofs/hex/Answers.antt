-- `hex`: the digits that the library spells, put at their place. Assumes nothing.
use native.Mathlib.Omega.{arith}
use borrow.Author.Rules.{rules}
use Rattle.text.proofs.Decimals.{hex_put, hex_width}
use Rattle.text.proofs.hex.Goals as goal

pub piece-requires : goal.piece-requires
piece-requires c =
    let d = c.hex-k.ensures in
    omega (arith, d.in_bounds, hex_width _ _ _ d.len (search rules) (search rules) (search rules))

pub returns : goal.returns
returns c =
    let d = c.hex-k.ensures in
    record { put = search hex_put; value = omega (arith, d.in_bounds, hex_width _ _ _ d.len (search rules) (search rules) (search rules)) }
