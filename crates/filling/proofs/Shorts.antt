-- What the entries are short, by a running total, is the book's sum; and the list is never long. Assumes nothing.
use Prim.Native.Nat.{ℕ, ◌+◌, ◌*◌, ◌≤◌, ◌<◌}
use mathlib.Core.Path.{◌≡◌, refl, sym, ap, ap₂, subst, ◌∙◌}
use mathlib.Core.Bool.{false}
use mathlib.Core.List.{List}
use native.Mathlib.Nat.{le_antisymm}
use native.Mathlib.Omega.{arith}
use lib.Dec.{ltb}
use lib.ListN.{length}
use borrow.Author.Tests.{le-ltb}
use Rattle.model.specs.Loops.{sum_below, node}
use Rattle.model.specs.Memory.{base, digits, node_count, add_node}
use Rattle.model.specs.Fill.{short_by, filling}
use Rattle.model.proofs.Sums.{sum_step, sum_none, sum_up_to}
use Rattle.model.proofs.Status.{IsNode}
use Rattle.model.proofs.Sound.{Sound}
use Rattle.model.proofs.Filling.{Steady}
use Rattle.model.proofs.FillingLength.{short_sum, filling_length}
use Rattle.model.proofs.FillingFew.{filling_few}
use Rattle.consistency.specs.NodeSets.{Sharing}
use Rattle.consistency.proofs.Alone.{none_short}
use Rattle.filling.specs.Short.{level_short_by, node_short_by}

module _ (f : ℕ → ℕ) where
  pub total_none : 0 ≡ sum_below 0 f
  unfolding sum_below
  total_none = refl

  pub total_goes : (i total r : ℕ) → total ≡ sum_below i f → r ≡ f i → total + r ≡ sum_below (i + 1) f
  total_goes i total r e q = ap₂ ◌+◌ e q ∙ sym (sum_step i f)

  -- m is n as the code has read it
  pub total_ends : (m n i total : ℕ) → m ≡ n → total ≡ sum_below i f → i ≤ m → m ≤ i → total ≡ sum_below n f
  total_ends m n i total q e l g = subst (λ (m : ℕ). total ≡ sum_below m f) (le_antisymm l g ∙ q) e

-- where x is alone above level i, no level above adds to the total
pub total_alone : (s t : List ℕ) → Sound s t → (x : ℕ) → IsNode s x → (i N : ℕ) → Sharing s x (i + 1) N → N ≡ add_node 0 x → i < digits s → (total : ℕ)
    → total ≡ sum_below (i + 1) (level_short_by s t x) → total ≡ node_short_by s t x
total_alone s t S x nx i N sh e hi total q =
    q
    ∙ sym (sum_up_to (i + 1) (digits s) (level_short_by s t x) (omega arith)
    (λ m l hm. sum_none (base s) (short_by s t x m) (λ j hj. none_short s x nx i N sh e m j (omega arith) t S hm)))

module _ (s t : List ℕ) (w : Steady s t) where
  -- the entries of all nodes, four bytes for each addition
  pub measured : (n k total : ℕ) → n ≡ node_count s → total ≡ sum_below k (node (node_short_by s t)) → k ≤ n → n ≤ k → 4 * total ≡ length (filling s t).list
  unfolding short_sum
  measured n k total en e l g =
      ap (λ (m : ℕ). 4 * m) (total_ends (node (node_short_by s t)) n (node_count s) k total en e l g) ∙ sym (filling_length s t w)

  -- the list fits where there is room for the longest
  pub never_exceeds : (room : ℕ) → 21504 ≤ room → false ≡ ltb room (length (filling s t).list)
  never_exceeds room l = sym (le-ltb room (length (filling s t).list) (omega (arith, filling_few s t w)))
