-- `ident::valid_id` meets its contract: the chain tests the digits in the places that the id has, which decide as all digits do, and the
-- shift leaves the bits above. Assumes nothing.
use Rattle.std.proofs.Common.{rules, refl, ap, sym, ◌∙◌, Bool}
use mathlib.Core.Bool.{◌&&◌}
use lib.Dec.{eqb}
use Prim.Native.Nat.{◌/◌, ◌*◌, ◌^◌}
use Rattle.model.specs.Ids.{digit_below}
use Rattle.model.proofs.Ranges.{all_of_range}
use Rattle.ident.proofs.Places.{valid_is}
use Rattle.ident.proofs.valid_id.Goals as goal

pub returns-then-all : goal.returns-then-all
returns-then-all c =
    let a = c.args in
    let p = c.min-places.result in
    ap (λ (r : Bool). r && eqb (a.id / 2 ^ (4 * p)) 0) (sym c.if-all.true)
    ∙ valid_is a.base a.digits a.id p c.all.result c.ranges.id.fits c.min-places.ensures
    (all_of_range _ _ _ _ (digit_below a.base a.id) _ c.all.ensures.ran refl (λ x b q k. search rules))

pub returns-else-all : goal.returns-else-all
returns-else-all c =
    let a = c.args in
    let p = c.min-places.result in
    c.if-all.false ∙ ap (λ (r : Bool). r && eqb (a.id / 2 ^ (4 * p)) 0) (sym c.if-all.false)
    ∙ valid_is a.base a.digits a.id p c.all.result c.ranges.id.fits c.min-places.ensures
    (all_of_range _ _ _ _ (digit_below a.base a.id) _ c.all.ensures.ran refl (λ x b q k. search rules))
