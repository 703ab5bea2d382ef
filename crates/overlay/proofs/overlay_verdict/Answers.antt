-- `overlay_verdict`: the answer of `verdict`, packed. Assumes nothing.
use native.Mathlib.Omega.{arith}
use Rattle.model.proofs.Fields.{verdict_bytes}
use Rattle.overlay.proofs.Fields.{call_fits, call_packs, short_few}
use Rattle.overlay.proofs.overlay_verdict.Goals as goal

pub pack-requires : goal.pack-requires
pack-requires c = call_fits 4 _ (omega arith) short_few _ _ _ _ c.verdict.ensures _ c.of_call.ensures (verdict_bytes _)

pub returns : goal.returns
returns c = call_packs 4 _ (omega arith) short_few _ _ _ _ c.verdict.ensures _ c.of_call.ensures _ c.pack.ensures
