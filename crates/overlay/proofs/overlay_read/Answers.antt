-- `overlay_read`: the answer of `read`, packed. Assumes nothing.
use native.Mathlib.Omega.{arith}
use Rattle.overlay.proofs.Fields.{packs}
use Rattle.overlay.proofs.Wide.{short_fits, read_short, read_few}
use Rattle.overlay.proofs.overlay_read.Goals as goal

pub pack-requires : goal.pack-requires
pack-requires c = short_fits _ (read_short _ _) _ _ _ (read_few _) c.read.ensures _ c.of_reading.ensures

pub returns : goal.returns
returns c = packs _ _ _ _ (omega (arith, read_few c.read.result)) c.read.ensures _ c.of_reading.ensures _ c.pack.ensures
