-- A level in which one slot is filled, the first of the owner's own entry, as the code finds it: u is what stands there. Assumes nothing.
use Prim.Native.Nat.{ℕ, ◌+◌, ◌-◌, ◌*◌, ◌<◌}
use mathlib.Core.Path.{◌≡◌, ap, ◌∙◌}
use mathlib.Core.List.{List}
use native.Mathlib.Omega.{arith}
use lib.Dec.{eqb}
use lib.ListN.{length, take, drop}
use borrow.Author.Tests.{eq-eqb}
use Rattle.model.specs.Loops.{count_below}
use Rattle.model.specs.Ids.{digit_of}
use Rattle.model.specs.Memory.{base, digits, node_count, id_of}
use Rattle.model.specs.Tables.{slot_at}
use Rattle.model.specs.Sound.{has_valid_id}
use Rattle.model.proofs.Ids.{valid_digit}
use Rattle.model.proofs.Nodes.{nodes_at}
use Rattle.model.proofs.Status.{IsNode}
use Rattle.state.specs.Checked.{Identified}
use Rattle.soundness_tables.specs.TableFacts.{slot_filled, level_exact}
use Rattle.soundness_tables.proofs.AloneLaws.{alone_sound}

pub level_alone : (s : List ℕ) (x : ℕ) (T : List ℕ) (i j id u count : ℕ) → Identified s → IsNode s x → length T ≡ 512 → i < digits s
    → id ≡ id_of s x → j ≡ digit_of id i → u ≡ slot_at T i j 0 → u ≡ x
    → count ≡ count_below 64 (slot_filled (take (64 * i + 64 - 64 * i) (drop (64 * i) T))) → count ≡ 1 → eqb count 1 ≡ level_exact s x T i
level_alone s x T i j id u count w n whole l f d p e c one =
    let r = w.ranged in
    let is_digit : j ≡ digit_of (id_of s x) i = d ∙ ap (λ (id : ℕ). digit_of id i) f in
    eq-eqb count 1 one
    ∙ alone_sound s x T i j u count whole (omega (arith, r.digits)) is_digit
    (omega (arith, is_digit, valid_digit (base s) (digits s) (id_of s x) i (nodes_at (node_count s) (has_valid_id s) w.ids x n.low n.high) l))
    r.base r.depth_least n.high n.low p e c one
