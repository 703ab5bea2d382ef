-- `overlay_lookup`: the answer of `lookup`, packed. Assumes nothing.
use native.Mathlib.Omega.{arith}
use Rattle.model.proofs.Fields.{lookup_bytes}
use Rattle.overlay.proofs.Fields.{call_fits, call_packs}
use Rattle.overlay.proofs.overlay_lookup.Goals as goal

pub pack-requires : goal.pack-requires
pack-requires c = call_fits 3 _ (omega arith) (λ a. omega arith) _ _ _ _ c.lookup.ensures _ c.of_call.ensures (lookup_bytes _ _ _ _)

pub returns : goal.returns
returns c = call_packs 3 _ (omega arith) (λ a. omega arith) _ _ _ _ c.lookup.ensures _ c.of_call.ensures _ c.pack.ensures
