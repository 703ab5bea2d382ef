-- Laws of slots as the code reads them. Assumes nothing.
use Prim.Native.Nat.{ℕ, ◌≤◌, ◌<◌}
use mathlib.Core.Path.{◌≡◌, refl, sym, subst, ◌∙◌}
use mathlib.Core.Bool.{Bool, true}
use mathlib.Core.List.{List}
use native.Mathlib.Omega.{arith}
use borrow.Author.Tests.{eqb-true}
use Rattle.model.specs.Loops.{all_below}
use Rattle.model.specs.Memory.{depth, node_count}
use Rattle.model.specs.Tables.{slot_at, slot_is}
use Rattle.model.proofs.Loops.{all_of, all_at}
use Rattle.model.proofs.Early.{eq_or_goes, eq_or_leaves, le_goes, lt_goes}
use Rattle.soundness_tables.specs.TableFacts.{filled_sound, slot_exact, entry_exact}

-- ---- a slot's tests, u being the node that the code has read there, d the depth and n the number of nodes that it holds

pub slot_empty : (s : List ℕ) (x : ℕ) (T : List ℕ) (i j k u : ℕ) → u ≡ slot_at T i j k → u ≡ 0 → true ≡ slot_exact s x T i j k
unfolding slot_exact
slot_empty s x T i j k u p e = eq_or_leaves (slot_at T i j k) 0 _ (sym p ∙ e)

pub slot_filled_lem : (s : List ℕ) (x : ℕ) (T : List ℕ) (i j k u d n : ℕ) (r : Bool) → u ≡ slot_at T i j k → d ≡ depth s → n ≡ node_count s
    → (u ≡ 0 → ⊥) → k < d → u ≤ n → r ≡ filled_sound s x T i j k u → r ≡ slot_exact s x T i j k
unfolding slot_exact
slot_filled_lem s x T i j k u d n r p q w h g l e =
    eq_or_goes (slot_at T i j k) 0 _ r (λ z. h (p ∙ z))
    (lt_goes k (depth s) _ r (omega arith)
    (le_goes (slot_at T i j k) (node_count s) _ r (omega arith) (subst (λ (v : ℕ). r ≡ filled_sound s x T i j k v) p e)))

-- four empty slots are a sound entry
pub entry_empty : (s : List ℕ) (x : ℕ) (T : List ℕ) (i j : ℕ) (r : Bool) → r ≡ all_below 4 (slot_is T i j 0) → r ≡ true
    → r ≡ entry_exact s x T i j
unfolding entry_exact
entry_empty s x T i j r e h =
    h
    ∙ sym
    (all_of 4 (slot_exact s x T i j)
    (λ k g. sym (slot_empty s x T i j k 0 (sym (eqb-true (slot_at T i j k) 0 (all_at 4 (slot_is T i j 0) (sym e ∙ h) k g))) refl)))
