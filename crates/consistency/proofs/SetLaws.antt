-- Laws of sets of nodes: the common members, and how many. Assumes nothing.
use Prim.Native.Nat.{ℕ, zero, suc, ◌+◌, ◌-◌, ◌/◌, ◌%◌, ◌^◌, ◌≤◌, ◌<◌}
use mathlib.Core.Path.{◌≡◌, sym, ap, ◌∙◌}
use mathlib.Core.Logic.{◌≢◌}
use mathlib.Core.Bool.{Bool, false, ◌&&◌}
use native.Mathlib.Nat.{mod-lt, zero-lt-suc}
use native.Mathlib.Omega.{arith}
use lib.Bits.{bit_and, and_zero_l, and_zero_r, and_self, and_shr, and_mod}
use lib.Dec.{eqb}
use Rattle.model.specs.Loops.{count_below, node}
use Rattle.model.specs.Memory.{has_node, set_size}
use Rattle.model.proofs.Loops.{count_some}
use Rattle.model.proofs.Sums.{bit, bits, count_sum, sum_up_to}
use Rattle.model.proofs.Sets.{has_some}

-- ---- common members

both_bits : (p q : ℕ) → p < 2 → q < 2 → eqb (bit_and p q) 1 ≡ (eqb p 1 && eqb q 1)
both_bits zero q hp hq = ap (λ (n : ℕ). eqb n 1) (and_zero_l q)
both_bits (suc zero) zero hp hq = ap (λ (n : ℕ). eqb n 1) (and_zero_r 1)
both_bits (suc zero) (suc zero) hp hq = ap (λ (n : ℕ). eqb n 1) (and_self 1)
both_bits (suc zero) (suc (suc q)) hp hq = absurd (omega arith)
both_bits (suc (suc p)) q hp hq = absurd (omega arith)

pub has_both : (a b y : ℕ) → has_node (bit_and a b) y ≡ (has_node a y && has_node b y)
unfolding has_node
has_both a b y =
    ap (λ (n : ℕ). eqb n 1) (ap (λ (n : ℕ). n % 2) (and_shr a b (y - 1)) ∙ and_mod (a / 2 ^ (y - 1)) (b / 2 ^ (y - 1)) 1)
    ∙ both_bits (a / 2 ^ (y - 1) % 2) (b / 2 ^ (y - 1) % 2) (mod-lt _ (zero-lt-suc 1)) (mod-lt _ (zero-lt-suc 1))

-- ---- how many

pub some_size : (Q : ℕ) → Q ≢ 0 → Q < 2 ^ 64 → 1 ≤ set_size Q
unfolding set_size
some_size Q h l =
    let w = has_some Q 64 (omega (arith, h)) l in
    let e : w.0 - 1 + 1 ≡ w.0 = omega (arith, w.1) in
    count_some 64 (node (has_node Q)) (w.0 - 1) (omega (arith, w.1, w.2)) (ap (has_node Q) e ∙ w.3)

-- a test that holds nowhere from n on
pub count_up_to : (n m : ℕ) (f : ℕ → Bool) → n ≤ m → ((k : ℕ) → n ≤ k → k < m → f k ≡ false) → count_below m f ≡ count_below n f
count_up_to n m f l h =
    count_sum m f ∙ sum_up_to n m (bits f) l (λ k a b. ap bit (h k a b)) ∙ sym (count_sum n f)
