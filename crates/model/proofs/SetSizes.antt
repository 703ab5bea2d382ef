-- How many nodes a set has: one more with a node that it did not have, never above 64, at most n of nodes up to n, and what the code counts by
-- `count_ones`. Assumes nothing.
use Prim.Native.Nat.{ℕ, zero, suc, ◌+◌, ◌-◌, ◌/◌, ◌%◌, ◌^◌, ◌≤◌, ◌<◌}
use mathlib.Core.Path.{◌≡◌, refl, sym, ap, ap₂, ◌∙◌}
use mathlib.Core.Logic.{◌≢◌}
use mathlib.Core.Bool.{Bool, true, false, cond}
use native.Mathlib.Nat.{add_comm, mod-lt, mod-one, mod-eq_of_lt}
use native.Mathlib.Decide.{ℕ_discrete}
use native.Mathlib.Numerals.{add-one}
use native.Mathlib.Omega.{arith}
use lib.Count.{ones_in, ones, ones_cat}
use lib.Dec.{eqb}
use lib.Pow.{pow_pos, mod-pow-add}
use Rattle.model.specs.Loops.{count_below, node}
use Rattle.model.specs.Memory.{has_node, add_node, set_size}
use Rattle.model.proofs.Loops.{count_le, count_none, count_same}
use Rattle.model.proofs.Counting.{count_most}
use Rattle.model.proofs.Sets.{has_none, has_added, has_add_other, has_within}

-- the count of a test that comes to hold at one index more
one_more : (n : ℕ) (f g : ℕ → Bool) (k : ℕ) → k < n → f k ≡ false → g k ≡ true → ((i : ℕ) → i ≢ k → g i ≡ f i)
    → count_below n g ≡ count_below n f + 1
unfolding count_below
one_more zero f g k l a b h = absurd (omega arith)
one_more (suc n) f g k l a b h = go (one_more n f g k) (ℕ_discrete k n)
  where
    go : (k < n → f k ≡ false → g k ≡ true → ((i : ℕ) → i ≢ k → g i ≡ f i) → count_below n g ≡ count_below n f + 1) → Dec (k ≡ n)
        → count_below n g + cond (g n) 1 0 ≡ count_below n f + cond (f n) 1 0 + 1
    go rest (yes e) =
        rw (ap g (sym e) ∙ b, ap f (sym e) ∙ a)
        (omega (arith, count_same n g f (λ i m. h i (omega arith))))
    go rest (no e) =
        rw (h n (λ q. e (sym q)))
        (omega (arith, rest (omega arith) a b h))

pub size_none : set_size 0 ≡ 0
unfolding set_size
size_none = count_none 64 (node (has_node 0)) (λ k l. has_none (k + 1))

module _ (nodes u : ℕ) (low : 1 ≤ u) (high : u ≤ 64) (new : has_node nodes u ≡ false) where
  back : u - 1 + 1 ≡ u
  back = omega arith

  pub size_add : set_size (add_node nodes u) ≡ set_size nodes + 1
  unfolding set_size
  size_add =
      one_more 64 (node (has_node nodes)) (node (has_node (add_node nodes u))) (u - 1) (omega arith) (ap (has_node nodes) back ∙ new)
      (ap (has_node (add_node nodes u)) back ∙ has_added nodes u)
      (λ i e. has_add_other nodes u (i + 1) low (omega arith) (λ q. e (omega arith)))

  -- with room for u itself
  pub size_room : set_size nodes ≤ 63
  unfolding set_size
  size_room = omega (arith, size_add, count_le 64 (node (has_node (add_node nodes u))))

-- a set of nodes up to n has at most n
pub size_within : (nodes n : ℕ) → nodes < 2 ^ n → set_size nodes ≤ n
unfolding set_size
size_within nodes n l =
    count_most 64 n (node (has_node nodes)) (λ k. k) (λ k g h. omega (arith, has_within nodes n (k + 1) l h)) (λ j k a b c d e. e)

-- ---- what the code counts

bit_ones : (b : ℕ) → b < 2 → ones b ≡ cond (eqb b 1) 1 0
unfolding ones ones_in
bit_ones zero h = refl
bit_ones (suc zero) h = refl
bit_ones (suc (suc b)) h = absurd (omega arith)

last : (k : ℕ) → k + 1 - 1 ≡ k
last k = omega arith

counted : (nodes k : ℕ) → count_below k (node (has_node nodes)) ≡ ones (nodes % 2 ^ k)
unfolding count_below has_node ones ones_in
counted nodes zero = sym (ap ones (mod-one nodes))
counted nodes (suc k) =
    ap₂ ◌+◌ (counted nodes k) (ap (λ (i : ℕ). cond (eqb (nodes / 2 ^ i % 2) 1) 1 0) (last k) ∙ sym (bit_ones (nodes / 2 ^ k % 2) (mod-lt _ (omega arith))))
    ∙ add_comm (ones (nodes % 2 ^ k)) _
    ∙ sym (ones_cat k (nodes / 2 ^ k % 2) (nodes % 2 ^ k) (mod-lt nodes (pow_pos k)))
    ∙ ap ones (sym (mod-pow-add nodes 1 k))
    ∙ ap (λ (i : ℕ). ones (nodes % 2 ^ i)) (add_comm 1 k ∙ add-one k)

pub size_code : (nodes : ℕ) → nodes < 2 ^ 64 → ones nodes ≡ set_size nodes
unfolding set_size
size_code nodes h = sym (counted nodes 64 ∙ ap ones (mod-eq_of_lt h))
