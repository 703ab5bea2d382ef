-- `overlay_deliver`: the answer of `deliver`, packed. Assumes nothing.
use native.Mathlib.Omega.{arith}
use Rattle.model.proofs.Fields.{deliver_bytes}
use Rattle.overlay.proofs.Fields.{call_fits, call_packs, taken_few}
use Rattle.overlay.proofs.overlay_deliver.Goals as goal

pub pack-requires : goal.pack-requires
pack-requires c = call_fits 3 _ (omega arith) taken_few _ _ _ _ c.deliver.ensures _ c.of_call.ensures (deliver_bytes _ _ _)

pub returns : goal.returns
returns c = call_packs 3 _ (omega arith) taken_few _ _ _ _ c.deliver.ensures _ c.of_call.ensures _ c.pack.ensures
