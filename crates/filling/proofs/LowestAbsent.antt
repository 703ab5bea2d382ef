-- The lowest of the nodes that an entry lacks, by the set of those that qualify. Assumes nothing.
use Prim.Native.Nat.{ℕ, ◌+◌, ◌-◌, ◌≤◌}
use Rattle.std.specs.Prelude.{Option, None, Some, IfNone}
use Rattle.std.specs.Option.{is_some}
use mathlib.Core.Path.{◌≡◌, refl, sym, ap, ap₂, ◌∙◌}
use mathlib.Core.Bool.{Bool, true, not, ◌&&◌}
use mathlib.Core.List.{List}
use native.Mathlib.Nat.{le_antisymm}
use native.Mathlib.Omega.{arith}
use Rattle.model.specs.Loops.{node}
use Rattle.model.specs.Memory.{depth, node_count, table_of, has_node}
use Rattle.model.specs.Tables.{holds}
use Rattle.model.specs.Fill.{is_absent, lowest_absent, short_by}
use Rattle.model.proofs.Bools.{not_both}
use Rattle.model.proofs.Loops.{le_of_not_lt, first_min}
use mathlib.Core.Logic.{◌≢◌}
use Rattle.model.proofs.Sets.{has_none}
use Rattle.model.proofs.Status.{IsNode}
use Rattle.model.proofs.Filling.{Steady, EntryOf, lowest_node, lowest_absent_lem}
use Rattle.consistency.specs.NodeSets.{Qualify}
use Rattle.filling.specs.NodeSets.{Rest, First}

-- where the set is not empty the search has found a node
pub found : (o : Option ℕ) (R : ℕ) → R ≢ 0 → IfNone o (R ≡ 0) → is_some o ≡ true
found None R h e = absurd (h e)
found (Some x) R h e = refl

module _ (s : List ℕ) (x i j Q : ℕ) (q : Qualify s x i j Q) (t : List ℕ) (w : Steady s t) (K : ℕ) (T : List ℕ) (eK : K ≡ depth s) (eT : T ≡ table_of t x)
    (e : EntryOf s x i j) (short : 1 ≤ short_by s t x i j) (R : ℕ) (rest : Rest K T i j Q R) where
  absent : (y : ℕ) → IsNode s y → has_node R y ≡ is_absent s t x i j y
  unfolding is_absent
  absent y n =
      rest.is y n.low
      ∙ ap₂ (λ (a b : Bool). a && not b) (q.is y n) (ap₂ (λ (K : ℕ) (T : List ℕ). holds K T i j y) eK eT)

  abbrev y : ℕ
  y = lowest_absent s t x i j

  ny : IsNode s y
  ny = lowest_node s t w x i j e short

  -- so the set is not empty
  pub some : R ≢ 0
  some z =
      not_both (has_node R y) (absent y ny ∙ lowest_absent_lem s t w x i j e short) (ap (λ (R : ℕ). has_node R y) z ∙ has_none y)

  module _ (r : ℕ) (first : First R r) where
    low : r ≤ y
    low =
        le_of_not_lt (λ h. not_both (has_node R y) (absent y ny ∙ lowest_absent_lem s t w x i j e short) (first.before y ny.low h))

    nr : IsNode s r
    nr = record { low = first.low; high = omega (arith, low, ny.high) }

    high : y ≤ r
    unfolding lowest_absent
    high =
        let p : r - 1 + 1 ≡ r = omega (arith, first.low) in
        omega (
          arith,
          first.low,
          first_min (node_count s) (node (is_absent s t x i j)) (r - 1)
              (ap (is_absent s t x i j) p ∙ sym (absent r nr) ∙ first.here),
        )

    pub lowest_is : r ≡ lowest_absent s t x i j
    lowest_is = le_antisymm low high
