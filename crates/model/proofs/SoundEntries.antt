-- An entry of a node's table in a sound state, by its slots and as a list: each of its nodes qualifies for it, and no two are the same. Assumes nothing.
use Prim.Native.Nat.{ℕ, ◌+◌, ◌-◌, ◌≤◌, ◌<◌}
use mathlib.Core.Path.{◌≡◌, sym, subst, ◌∙◌}
use mathlib.Core.Bool.{Bool, true}
use mathlib.Core.List.{List}
use native.Mathlib.Omega.{arith}
use lib.ListN.{length, get_or}
use Rattle.model.specs.Memory.{base, digits, depth, node_count, table_of}
use Rattle.model.specs.Loops.{node}
use Rattle.model.specs.Tables.{slot_place, slot_at, entry_size}
use Rattle.model.specs.Nodes.{qualifies, count_nodes}
use Rattle.model.specs.Consistency.{neighbors}
use Rattle.model.proofs.Counting.{count_least}
use Rattle.model.proofs.Memory.{table_length}
use Rattle.model.proofs.Tables.{size_le, size_filled, entry_length, entry_at}
use Rattle.model.proofs.Status.{IsNode}
use Rattle.model.proofs.Sound.{SlotOk, Sound, table_fits}

-- as many different nodes of which a test holds are no more than it counts
pub nodes_least : (s : List ℕ) (test : ℕ → Bool) (m : ℕ) (f : ℕ → ℕ) → ((k : ℕ) → k < m → IsNode s (f k) × (test (f k) ≡ true))
    → ((j k : ℕ) → j < m → k < m → f j ≡ f k → j ≡ k) → m ≤ count_nodes s test
nodes_least s test m f holds differ =
    count_least (node_count s) m (node test) (λ k. f k - 1)
    (λ k h.
    let w : f k ≡ f k - 1 + 1 = omega (arith, (holds k h).0.low) in
    (omega (arith, (holds k h).0.low, (holds k h).0.high), subst (λ (y : ℕ). test y ≡ true) w (holds k h).1))
    (λ j k h g e. differ j k h g (omega (arith, (holds j h).0.low, (holds k g).0.low)))

module _ (s t : List ℕ) (S : Sound s t) (x i j : ℕ) (nx : IsNode s x) (hi : i < digits s) (hj : j < base s) where
  pub entry_fits : slot_place i j (depth s) ≤ length (table_of t x)
  entry_fits = omega (arith, table_length t x (table_fits s t S x nx), S.settings.digits_most, S.settings.base_most, S.settings.depth_most)

  pub size_is_length : length (neighbors s t x i j) ≡ entry_size (depth s) (table_of t x) i j
  size_is_length = entry_length (depth s) (table_of t x) i j entry_fits

  -- ---- by its slots

  pub slot_in : (k : ℕ) → k < entry_size (depth s) (table_of t x) i j → SlotOk s x (table_of t x) i j k
  slot_in k h =
      (S.tables x nx).slots i j k hi hj (omega (arith, h, size_le (depth s) (table_of t x) i j)) (size_filled (depth s) (table_of t x) i j k h)

  -- two of them hold different nodes
  pub slots_differ : (k l : ℕ) → k < entry_size (depth s) (table_of t x) i j → l < entry_size (depth s) (table_of t x) i j
      → slot_at (table_of t x) i j k ≡ slot_at (table_of t x) i j l → k ≡ l
  slots_differ k l h g e =
      let below : k < l → ⊥ = λ p. (slot_in l g).fresh k p e in
      let above : l < k → ⊥ = λ p. (slot_in k h).fresh l p (sym e) in
      omega (arith, below, above)

  -- ---- as a list

  module _ (k : ℕ) (h : k < length (neighbors s t x i j)) where
    in_size : k < entry_size (depth s) (table_of t x) i j
    in_size = subst (λ (n : ℕ). k < n) size_is_length h

    -- a node of the entry stands in its slot
    pub entry_slot : get_or (neighbors s t x i j) k 0 ≡ slot_at (table_of t x) i j k
    entry_slot = entry_at (depth s) (table_of t x) i j entry_fits k in_size

    pub entry_node : IsNode s (get_or (neighbors s t x i j) k 0)
    entry_node = subst (IsNode s) (sym entry_slot) (record { low = omega (arith, size_filled (depth s) (table_of t x) i j k in_size); high = (slot_in k in_size).within })

    pub entry_qualifies : qualifies s x i j (get_or (neighbors s t x i j) k 0) ≡ true
    entry_qualifies = subst (λ (v : ℕ). qualifies s x i j v ≡ true) (sym entry_slot) (slot_in k in_size).qual

  -- two places of the entry hold different nodes
  pub entry_differ : (k l : ℕ) → k < length (neighbors s t x i j) → l < length (neighbors s t x i j)
      → get_or (neighbors s t x i j) k 0 ≡ get_or (neighbors s t x i j) l 0 → k ≡ l
  entry_differ k l h g e = slots_differ k l (in_size k h) (in_size l g) (sym (entry_slot k h) ∙ e ∙ entry_slot l g)
