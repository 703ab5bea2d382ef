-- The test of 13, by what the code found. Assumes nothing.
use Prim.Native.Nat.{ℕ}
use mathlib.Core.Path.{◌≡◌, sym, ap, ◌∙◌}
use mathlib.Core.Bool.{Bool, true, false, ◌&&◌, ◌||◌}
use mathlib.Core.List.{List}
use lib.Dec.{eqb}
use Rattle.model.specs.Memory.{Node as Record, node_of, target_of, pending_of, copying, waiting, has_node, is_joining}
use Rattle.model.specs.Join.{outstanding}
use Rattle.model.proofs.Early.{true_or_leaves, false_or_goes}
use Rattle.state.specs.declared.record.Node.{Node}
use Rattle.state.specs.Loaded.{book_node}

-- x's own request, by its record
abbrev asks_target : Node → ℕ → Bool
asks_target n y = (eqb n.status copying || eqb n.status waiting) && eqb n.target y

module _ (s : List ℕ) (x y : ℕ) (n : Node) (o : book_node n ≡ node_of s x) (a : Bool) (e : a ≡ asks_target n y) where
  asks_is : a ≡ (is_joining s x && eqb (target_of s x) y)
  asks_is = e ∙ ap (λ (n : Record). (eqb n.status copying || eqb n.status waiting) && eqb n.target y) o

  pub asks_target_lem : a ≡ true → true ≡ outstanding s x y
  unfolding outstanding
  asks_target_lem h = true_or_leaves (is_joining s x && eqb (target_of s x) y) (has_node (pending_of s x) y) (sym asks_is ∙ h)

  pub asks_pending : (b : Bool) → a ≡ false → b ≡ has_node n.pending y → b ≡ outstanding s x y
  unfolding outstanding
  asks_pending b h q =
      false_or_goes (is_joining s x && eqb (target_of s x) y) (has_node (pending_of s x) y) b (sym asks_is ∙ h)
      (q ∙ ap (λ (n : Record). has_node n.pending y) o)
