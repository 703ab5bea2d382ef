-- `overlay_write`: the answer of `write`, packed. Assumes nothing.
use mathlib.Core.Path.{◌∙◌}
use native.Mathlib.Omega.{arith}
use Rattle.overlay.proofs.Fields.{five_of, call_packs}
use Rattle.overlay.proofs.Wide.{short_fits, write_short, number_few}
use Rattle.overlay.proofs.overlay_write.Goals as goal

pub pack-requires : goal.pack-requires
pack-requires c =
    short_fits _ (write_short _ _ _) _ _ _ (number_few _) c.write.ensures _ (c.of_call.ensures ∙ five_of 1 _ _)

pub returns : goal.returns
returns c = call_packs 1 _ (omega arith) (λ a. omega arith) _ _ _ _ c.write.ensures _ c.of_call.ensures _ c.pack.ensures
