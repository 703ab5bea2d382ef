-- Laws of sets of nodes: those that are left of a set without others, and the lowest one. Assumes nothing.
use Prim.Native.Nat.{ℕ, zero, suc, ◌+◌, ◌-◌, ◌*◌, ◌/◌, ◌%◌, ◌^◌, ◌≤◌, ◌<◌}
use mathlib.Core.Path.{◌≡◌, refl, sym, ap, ap₂, ◌∙◌}
use mathlib.Core.Logic.{◌≢◌}
use mathlib.Core.Bool.{Bool, true, false, not, ◌&&◌, ◌||◌, and-false}
use mathlib.Core.List.{List}
use native.Mathlib.Nat.{mod-lt, mod-eq_of_lt, zero-lt-suc, suc-mul, pow-succ', le_refl}
use native.Mathlib.Decide.{ℕ_discrete, dec_lt}
use native.Mathlib.Omega.{arith}
use lib.Arith.{mod-mul}
use lib.Pow.{pow_pos}
use lib.Count.{count_trailing_zeros}
use lib.Dec.{eqb}
use borrow.Author.Tests.{eq-eqb, ne_eqb}
use Rattle.model.specs.Memory.{has_node, remove_node}
use Rattle.model.specs.Tables.{slot_at, slot_is, holds}
use Rattle.model.proofs.Loops.{any_zero, any_step}
use Rattle.model.proofs.Sets.{has_removed, has_remove_other}
use Rattle.ident.proofs.Bits.{trailing_low, trailing_of_low}
use Rattle.filling.specs.NodeSets.{Rest, First}

-- ---- a set without the nodes of an entry

and_true : (a : Bool) → a ≡ (a && true)
and_true true = refl
and_true false = refl

pub without_one : (nodes u r : ℕ) → u ≢ 0 → r ≡ remove_node nodes u → (y : ℕ) → 1 ≤ y → has_node r y ≡ (has_node nodes y && not (eqb u y))
without_one nodes u r some e y l = ap (λ (r : ℕ). has_node r y) e ∙ go (ℕ_discrete y u)
  where
    go : Dec (y ≡ u) → has_node (remove_node nodes u) y ≡ (has_node nodes y && not (eqb u y))
    go (yes q) =
        ap (has_node (remove_node nodes u)) q
        ∙ has_removed nodes u
        ∙ sym (ap (λ (b : Bool). has_node nodes y && not b) (eq-eqb u y (sym q)) ∙ and-false (has_node nodes y))
    go (no q) =
        has_remove_other nodes u y (omega (arith, some)) l q
        ∙ and_true (has_node nodes y)
        ∙ ap (λ (b : Bool). has_node nodes y && not b) (sym (ne_eqb u y (λ w. q (sym w))))

module _ (T : List ℕ) (i j Q : ℕ) where
  pub rest_start : Rest 0 T i j Q Q
  unfolding holds
  rest_start = record {
    is = λ y l. and_true (has_node Q y) ∙ ap (λ (b : Bool). has_node Q y && not b) (sym (any_zero (slot_is T i j y)));
  }

  neither : (q h e : Bool) → ((q && not h) && not e) ≡ (q && not (h || e))
  neither true true e = refl
  neither true false e = refl
  neither false h e = refl

  module _ (k R : ℕ) (w : Rest k T i j Q R) where
    pub rest_goes : (r : ℕ) → ((y : ℕ) → 1 ≤ y → has_node r y ≡ (has_node R y && not (eqb (slot_at T i j k) y))) → Rest (k + 1) T i j Q r
    unfolding holds
    rest_goes r f = record {
      is = λ y l.
          f y l
          ∙ ap (λ (b : Bool). b && not (eqb (slot_at T i j k) y)) (w.is y l)
          ∙ neither (has_node Q y) (holds k T i j y) (eqb (slot_at T i j k) y)
          ∙ ap (λ (b : Bool). has_node Q y && not b) (sym (any_step k (slot_is T i j y)));
    }

-- ---- the lowest

-- the low j + 1 bits of n by bit j and those below it
bit_mod : (n j : ℕ) → n % 2 ^ suc j ≡ n / 2 ^ j % 2 * 2 ^ j + n % 2 ^ j
bit_mod n j = ap (λ (p : ℕ). n % p) (pow-succ' 2 j) ∙ mod-mul n (zero-lt-suc 1) (pow_pos j)

bit_zero : (n j : ℕ) → n % 2 ^ suc j ≡ 0 → n / 2 ^ j % 2 ≡ 0
bit_zero n j e = go (n / 2 ^ j % 2) (sym (bit_mod n j) ∙ e)
  where
    go : (b : ℕ) → b * 2 ^ j + n % 2 ^ j ≡ 0 → b ≡ 0
    go zero q = refl
    go (suc b) q = let w : suc b * 2 ^ j ≡ b * 2 ^ j + 2 ^ j = suc-mul b (2 ^ j) in absurd (omega (arith, q, pow_pos j))

bit_one : (b : ℕ) → b < 2 → b ≢ 0 → b ≡ 1
bit_one b l h = omega (arith, h)

module _ (n : ℕ) where
  abbrev low : ℕ
  low = count_trailing_zeros 64 n

  before : (y : ℕ) → 1 ≤ y → y < low + 1 → has_node n y ≡ false
  unfolding has_node
  before y l h =
      let e : suc (y - 1) ≡ y = omega arith in
      ap (λ (b : ℕ). eqb b 1) (bit_zero n (y - 1) (ap (λ (k : ℕ). n % 2 ^ k) e ∙ trailing_low y 64 n (omega arith)))

  odd : low < 64 → n / 2 ^ low % 2 ≢ 0
  odd h z =
      let none : 0 * 2 ^ low + 0 ≡ 0 = omega arith in
      let q : n % 2 ^ suc low ≡ 0 = bit_mod n low ∙ ap₂ (λ (a b : ℕ). a * 2 ^ low + b) z (trailing_low low 64 n (le_refl low)) ∙ none in
      let w : suc low ≤ low = trailing_of_low (suc low) 64 n h q in omega arith

  here : low + 1 ≤ 64 → has_node n (low + 1) ≡ true
  unfolding has_node
  here h =
      let e : low + 1 - 1 ≡ low = omega arith in
      eq-eqb _ 1 (ap (λ (k : ℕ). n / 2 ^ k % 2) e ∙ bit_one _ (mod-lt _ (zero-lt-suc 1)) (odd (omega arith)))

  module _ (some : n ≢ 0) (fits : n < 2 ^ 64) where
    low_lt : Dec (low < 64) → low < 64
    low_lt (yes l) = l
    low_lt (no g) = absurd (some (sym (mod-eq_of_lt fits) ∙ trailing_low 64 64 n (omega (arith, g))))

    pub first_is : First n (low + 1)
    first_is =
        let l : low < 64 = low_lt (dec_lt low 64) in
        record { low = omega arith; high = omega arith; before = before; here = here (omega arith) }
