-- Once nobody else shares the low digits of x nothing is lacking at the levels above: x stands first in its own entries, and nobody qualifies for the
-- others. Assumes nothing.
use Prim.Native.Nat.{ℕ, ◌+◌, ◌≤◌, ◌<◌}
use mathlib.Core.Path.{◌≡◌, sym, ap, ◌∙◌}
use mathlib.Core.Logic.{◌⊎◌, inl, inr}
use mathlib.Core.Bool.{true, false}
use mathlib.Core.List.{List}
use native.Mathlib.Decide.{ℕ_discrete}
use native.Mathlib.Omega.{arith}
use borrow.Author.Tests.{eq-eqb}
use Rattle.model.specs.Loops.{count_below, node}
use Rattle.model.specs.Ids.{digit_of, low_digits}
use Rattle.model.specs.Memory.{digits, depth, node_count, id_of, table_of, has_node, add_node}
use Rattle.model.specs.Tables.{entry_size}
use Rattle.model.specs.Nodes.{qualifies}
use Rattle.model.specs.Consistency.{how_many}
use Rattle.model.specs.Fill.{short_by}
use Rattle.model.proofs.Bools.{true_or_false, not_both}
use Rattle.model.proofs.Loops.{count_none}
use Rattle.model.proofs.Counting.{count_one}
use Rattle.model.proofs.Ids.{low_of_digits, low_at, qualified_low, qualified_digit}
use Rattle.model.proofs.Sets.{has_none, has_add_other}
use Rattle.model.proofs.TableSteps.{size_goes}
use Rattle.model.proofs.Status.{IsNode}
use Rattle.model.proofs.Sound.{Sound}
use Rattle.consistency.specs.NodeSets.{Sharing}

module _ (s : List ℕ) (x : ℕ) (nx : IsNode s x) (i S : ℕ) (sh : Sharing s x (i + 1) S) (e : S ≡ add_node 0 x) where
  only : (y : ℕ) → IsNode s y → low_digits (id_of s y) (i + 1) ≡ low_digits (id_of s x) (i + 1) → y ≡ x
  only y n q = go (ℕ_discrete y x)
    where
      go : Dec (y ≡ x) → y ≡ x
      go (yes p) = p
      go (no p) =
          absurd
          (not_both (has_node S y) (sh.is y n ∙ eq-eqb _ _ q)
          (ap (λ (S : ℕ). has_node S y) e ∙ has_add_other 0 x y nx.low n.low p ∙ has_none y))

  module _ (m j : ℕ) (above : i < m) where
    -- only x can qualify
    just : (y : ℕ) → IsNode s y → qualifies s x m j y ≡ true → y ≡ x
    just y n q =
        only y n
        (low_of_digits (id_of s y) (id_of s x) (i + 1)
        (λ k l. low_at (id_of s y) (id_of s x) m (sym (qualified_low (id_of s x) (id_of s y) m j q)) k (omega arith)))

    module _ (t : List ℕ) (w : Sound s t) (hm : m < digits s) where
      pub none_short : short_by s t x m j ≡ 0
      unfolding short_by how_many
      none_short = go (true_or_false (qualifies s x m j x))
        where
          at : (k : ℕ) → k < node_count s → IsNode s (k + 1)
          at k l = record { low = omega arith; high = omega arith }

          few : count_below (node_count s) (node (qualifies s x m j)) ≤ 1
          few =
              count_one (node_count s) (node (qualifies s x m j))
              (λ p q lp lq ep eq. let a = just (p + 1) (at p lp) ep in let b = just (q + 1) (at q lq) eq in omega (arith, a, b))

          go : (qualifies s x m j x ≡ true) ⊎ (qualifies s x m j x ≡ false) → short_by s t x m j ≡ 0
          go (inl q) =
              let d = qualified_digit (id_of s x) (id_of s x) m j q in
              let own = (w.tables x nx).owner m hm in
              let held = size_goes (depth s) (table_of t x) m (digit_of (id_of s x) m) 0 (omega arith) w.settings.depth_least (λ z. omega (arith, z, own, nx.low)) in
              omega (arith, few, held, ap (λ (j : ℕ). entry_size (depth s) (table_of t x) m j) d)
          go (inr q) =
              omega (
                arith,
                count_none (node_count s) (node (qualifies s x m j))
                    (λ k l. nobody k l (true_or_false (qualifies s x m j (k + 1)))),
              )
            where
              nobody : (k : ℕ) → k < node_count s → (qualifies s x m j (k + 1) ≡ true) ⊎ (qualifies s x m j (k + 1) ≡ false)
                  → qualifies s x m j (k + 1) ≡ false
              nobody k l (inl h) = ap (qualifies s x m j) (just (k + 1) (at k l) h) ∙ q
              nobody k l (inr h) = h
