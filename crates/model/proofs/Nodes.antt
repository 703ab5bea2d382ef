-- Laws of tests of the nodes, which are numbered from 1, and of common suffixes. Assumes nothing.
use Prim.Native.Nat.{ℕ, ◌+◌, ◌-◌, ◌≤◌}
use mathlib.Core.Path.{◌≡◌, subst}
use mathlib.Core.Bool.{Bool, true, false}
use mathlib.Core.List.{List}
use native.Mathlib.Omega.{arith}
use Rattle.model.specs.Loops.{all_below, any_below, node}
use Rattle.model.specs.Memory.{digits, id_of}
use Rattle.model.specs.Nodes.{suffix_of}
use Rattle.model.proofs.Loops.{all_at, all_of, any_at, any_false}

-- ---- tests of nodes

module _ (n : ℕ) (f : ℕ → Bool) where
  pub nodes_at : all_below n (node f) ≡ true → (x : ℕ) → 1 ≤ x → x ≤ n → f x ≡ true
  nodes_at e x l h =
      let w : x - 1 + 1 ≡ x = omega arith in
      subst (λ (y : ℕ). f y ≡ true) w (all_at n (node f) e (x - 1) (omega arith))

  pub nodes_of : ((x : ℕ) → 1 ≤ x → x ≤ n → f x ≡ true) → all_below n (node f) ≡ true
  nodes_of h = all_of n (node f) (λ k l. h (k + 1) (omega arith) (omega arith))

  pub no_node_at : any_below n (node f) ≡ false → (x : ℕ) → 1 ≤ x → x ≤ n → f x ≡ false
  no_node_at e x l h =
      let w : x - 1 + 1 ≡ x = omega arith in
      subst (λ (y : ℕ). f y ≡ false) w (any_at n (node f) e (x - 1) (omega arith))

  pub no_node_of : ((x : ℕ) → 1 ≤ x → x ≤ n → f x ≡ false) → any_below n (node f) ≡ false
  no_node_of h = any_false n (node f) (λ k l. h (k + 1) (omega arith) (omega arith))

-- ---- common suffixes

-- the common suffix of two nodes is the same where the number of digits and both ids are
pub suffix_by : (s s' : List ℕ) (x y : ℕ) → digits s' ≡ digits s → id_of s' x ≡ id_of s x → id_of s' y ≡ id_of s y → suffix_of s' x y ≡ suffix_of s x y
suffix_by s s' x y d e f = cc (d, e, f)
