-- How many nodes an entry lacks, by its slots and the set of those that qualify. Assumes nothing.
use Prim.Native.Nat.{ℕ, ◌+◌, ◌-◌, ◌^◌, ◌≤◌, ◌<◌, min}
use mathlib.Core.Path.{◌≡◌, sym, ap, ap₂, ◌∙◌}
use mathlib.Core.Logic.{◌≢◌}
use mathlib.Core.Bool.{Bool, true, false}
use mathlib.Core.List.{List}
use native.Mathlib.Nat.{lt_of_not-le}
use native.Mathlib.Omega.{arith}
use lib.Dec.{eqb}
use borrow.Author.Tests.{eqb-true, eqb-false}
use Rattle.model.specs.Loops.{node}
use Rattle.model.specs.Memory.{base, digits, depth, node_count, table_of, has_node, set_size}
use Rattle.model.specs.Tables.{slot_at, entry_size}
use Rattle.model.specs.Nodes.{qualifies}
use Rattle.model.specs.Consistency.{how_many}
use Rattle.model.specs.Fill.{short_by}
use Rattle.model.proofs.Loops.{count_same}
use Rattle.model.proofs.SetSizes.{size_none}
use Rattle.model.proofs.Tables.{GapFree, gap_rest, size_least}
use Rattle.model.proofs.Status.{IsNode}
use Rattle.model.proofs.Sound.{Sound}
use Rattle.model.proofs.NoRoom.{gapless}
use Rattle.consistency.specs.NodeSets.{Qualify}
use Rattle.consistency.proofs.SetLaws.{some_size, count_up_to}

-- ---- by the slots

module _ (K : ℕ) (T : List ℕ) (i j Q : ℕ) where
  module _ (r : Bool) (e : r ≡ eqb Q 0) where
    pub lack_none : r ≡ true → 0 ≡ min K (set_size Q) - entry_size K T i j
    lack_none q = omega (arith, ap set_size (eqb-true Q 0 (sym e ∙ q)), size_none)

    -- what the entry must hold is not nothing
    pub most_some : r ≡ false → 1 ≤ K → Q < 2 ^ 64 → (n m : ℕ) → n ≡ set_size Q → m ≡ min K n → 1 ≤ m
    most_some q some fits n m en em = omega (arith, some_size Q (eqb-false Q 0 (sym e ∙ q)) fits)

  module _ (g : GapFree K T i j) where
    -- a filled slot has none empty before it
    held : (k : ℕ) → k < K → slot_at T i j k ≢ 0 → k < entry_size K T i j
    held k l some = lt_of_not-le (λ h. some (gap_rest K T i j g k h l))

    pub lack_full : 1 ≤ K → slot_at T i j (K - 1) ≢ 0 → 0 ≡ min K (set_size Q) - entry_size K T i j
    lack_full some h = omega (arith, held (K - 1) (omega arith) h)

    pub lack_whole : (n m : ℕ) → n ≡ set_size Q → m ≡ min K n → 1 ≤ m → slot_at T i j (m - 1) ≢ 0 → 0 ≡ min K (set_size Q) - entry_size K T i j
    lack_whole n m en em some h = omega (arith, held (m - 1) (omega arith) h)

  pub lack_within : (m k : ℕ) → 1 ≤ m → slot_at T i j (m - 1) ≡ 0 → k ≡ entry_size K T i j → k ≤ m
  lack_within m k some z e = omega (arith, size_least K T i j (m - 1) z)

-- ---- by the book

pub slot_gaps : (s t : List ℕ) → Sound s t → (x i j : ℕ) → IsNode s x → i < digits s → j < base s → (K : ℕ) (T : List ℕ) → K ≡ depth s → T ≡ table_of t x
    → GapFree K T i j
slot_gaps s t S x i j n hi hj K T eK eT = rw (eK, eT) (gapless s t S x i j n hi hj)

module _ (s : List ℕ) (x i j Q : ℕ) (q : Qualify s x i j Q) where
  size_is : node_count s ≤ 64 → set_size Q ≡ how_many s x i j
  unfolding set_size how_many
  size_is few =
      count_up_to (node_count s) 64 (node (has_node Q)) few (λ k a b. q.none (k + 1) (omega arith) (omega arith))
      ∙ count_same (node_count s) (node (has_node Q)) (node (qualifies s x i j))
      (λ k l. q.is (k + 1) (record { low = omega arith; high = omega (arith, l) }))

  pub lack_is : (t : List ℕ) → Sound s t → (K : ℕ) (T : List ℕ) → K ≡ depth s → T ≡ table_of t x → (r : ℕ) → r ≡ min K (set_size Q) - entry_size K T i j
      → r ≡ short_by s t x i j
  unfolding short_by
  lack_is t S K T eK eT r e =
      e ∙ ap₂ ◌-◌ (ap₂ min eK (size_is S.few)) (ap₂ (λ (K : ℕ) (T : List ℕ). entry_size K T i j) eK eT)
