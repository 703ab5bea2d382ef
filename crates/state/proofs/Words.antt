-- A valid id, read as a word of the state, fits 32 bits. Assumes nothing.
use Prim.Native.Nat.{ℕ, ◌^◌, ◌<◌}
use mathlib.Core.List.{List}
use Rattle.model.specs.Memory.{base, digits, node_count, id_of}
use Rattle.model.specs.Sound.{has_valid_id}
use Rattle.model.proofs.Ids.{valid_fits}
use Rattle.model.proofs.Nodes.{nodes_at}
use Rattle.model.proofs.Status.{IsNode}
use Rattle.state.specs.Checked.{Identified}

pub word_fits : (s : List ℕ) → Identified s → (x : ℕ) → IsNode s x → id_of s x < 2 ^ 32
word_fits s w x h =
    valid_fits (base s) (digits s) (id_of s x) w.ranged.digits (nodes_at (node_count s) (has_valid_id s) w.ids x h.low h.high)
