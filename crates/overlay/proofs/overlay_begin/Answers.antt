-- `overlay_begin`: the answer of `begin`, packed. Assumes nothing.
use native.Mathlib.Omega.{arith}
use Rattle.model.proofs.Fields.{begin_bytes}
use Rattle.overlay.proofs.Fields.{call_fits, call_packs}
use Rattle.overlay.proofs.overlay_begin.Goals as goal

pub pack-requires : goal.pack-requires
pack-requires c = call_fits 1 _ (omega arith) (λ a. omega arith) _ _ _ _ c.begin.ensures _ c.of_call.ensures (begin_bytes _ _ _)

pub returns : goal.returns
returns c = call_packs 1 _ (omega arith) (λ a. omega arith) _ _ _ _ c.begin.ensures _ c.of_call.ensures _ c.pack.ensures
