-- `overlay_trace`: the answer of `trace`, packed. A trace of bytes has fewer than 256 paths. Assumes nothing.
use native.Mathlib.Omega.{arith}
use Rattle.model.proofs.Fields.{trace_bytes}
use Rattle.overlay.proofs.Fields.{packs, bytes_fit, trace_few}
use Rattle.overlay.proofs.overlay_trace.Goals as goal

pub pack-requires : goal.pack-requires
pack-requires c =
    bytes_fit _ _ _ _ (trace_few _) c.trace.ensures _ c.of_trace.ensures (trace_bytes _ _ (omega (arith, c.type_inv.trace 0)))

pub returns : goal.returns
returns c = packs _ _ _ _ (trace_few _) c.trace.ensures _ c.of_trace.ensures _ c.pack.ensures
