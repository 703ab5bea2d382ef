-- The number of nodes and the record of node x, stored in a state as a beginning and a withdrawal do: what that changes. Assumes nothing.
use Prim.Native.Nat.{ℕ, ◌+◌, ◌*◌, ◌≤◌, ◌<◌}
use mathlib.Core.Path.{◌≡◌, ◌∙◌}
use mathlib.Core.Logic.{◌≢◌, ◌⊎◌, inl}
use mathlib.Core.List.{List}
use native.Mathlib.Omega.{arith}
use lib.ListN.{length, get_or, set, length-set}
use lib.Seq.{get_or-set_same, get_or-set_other}
use Rattle.model.specs.Memory.{Node, node_count, node_of, with_node}
use Rattle.model.proofs.Memory.{node_same, words_apart, words, node_length, node_at, node_stored, node_outside}

module _ (s : List ℕ) (n x : ℕ) (r : Node) (low : 1 ≤ x) (fits : 8 * x + 8 ≤ length s) where
  fits₀ : 8 * x + 8 ≤ length (set s 3 n)
  fits₀ = omega (arith, fits, length-set s 3 n)

  pub stored_long : length (with_node (set s 3 n) x r) ≡ length s
  stored_long = node_length (set s 3 n) x r fits₀ ∙ length-set s 3 n

  pub stored_count : node_count (with_node (set s 3 n) x r) ≡ n
  stored_count =
      node_outside (set s 3 n) x r fits₀ 3 (inl (omega (arith, low))) ∙ get_or-set_same s 3 n 0 (omega (arith, fits, low))

  pub stored_record : node_of (with_node (set s 3 n) x r) x ≡ r
  stored_record = node_stored (set s 3 n) x r fits₀

  pub stored_at : (k : ℕ) → k < 8 → get_or (with_node (set s 3 n) x r) (8 * x + k) 0 ≡ get_or (words r) k 0
  stored_at = node_at (set s 3 n) x r fits₀

  -- every word but the number and the record's is as it was
  pub stored_word : (p : ℕ) → p ≢ 3 → (p < 8 * x) ⊎ (8 * x + 8 ≤ p) → get_or (with_node (set s 3 n) x r) p 0 ≡ get_or s p 0
  stored_word p ne h = node_outside (set s 3 n) x r fits₀ p h ∙ get_or-set_other s 3 p n 0 ne

  -- and so is every other node's record
  pub stored_kept : (y : ℕ) → 1 ≤ y → y ≢ x → node_of (with_node (set s 3 n) x r) y ≡ node_of s y
  stored_kept y first other =
      node_same s (with_node (set s 3 n) x r) y (λ k h. stored_word (8 * y + k) (omega (arith, first)) (words_apart x y k other h))
