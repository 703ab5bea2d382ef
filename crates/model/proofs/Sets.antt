-- Laws of node sets: what shifts, `and`, `or` and exclusive or of 64-bit words are in the book's quotients, sums and differences.
-- `1 * 2 ^ (x - 1) % 2 ^ 64` is the code's `1 << (x - 1)`. Assumes nothing.
use Prim.Native.Nat.{ℕ, zero, suc, ◌+◌, ◌-◌, ◌*◌, ◌/◌, ◌%◌, ◌^◌, ◌≤◌, ◌<◌}
use mathlib.Core.Path.{◌≡◌, refl, sym, ap, ap₂, subst, ◌∙◌}
use mathlib.Core.Logic.{◌≢◌, ◌⊎◌, inl, inr}
use mathlib.Core.Bool.{Bool, true, false, cond}
use native.Mathlib.Nat.{one-mul, pow-suc, zero-div, div_self, mul-mod_left, zero-mul, div-lt_iff_lt-mul, le-div_iff_mul-le, div-eq_of_lt, mod-lt}
use native.Mathlib.Decide.{dec_lt, ℕ_discrete}
use native.Mathlib.Omega.{arith}
use lib.Bits.{bit_and, bit_or, bit_xor, and_mask, and_high, or_add_and, xor_add_and, or_shr, or_mod, xor_shr, xor_mod, or_zero_l, or_zero_r, xor_zero_r, or_self, xor_self, or_lt}
use lib.Dec.{ltb, eqb}
use lib.Pow.{pow_pos, pow-lt, pow_mono, pow-add, shl-shr, high_ones, shl_exact}
use borrow.Author.Tests.{eqb-true, eqb-false, ltb-true, lt-ltb, eq-eqb}
use Rattle.model.specs.Loops.{any_below, node}
use Rattle.model.specs.Memory.{has_node, add_node, remove_node}
use Rattle.model.proofs.Bools.{back_true, same_test, true_or_false, not_both}
use Rattle.model.proofs.Loops.{any_found}
use Rattle.model.proofs.Nodes.{no_node_at}

-- the bit of a set at place k, and in the word
bit_and_lem : (nodes k : ℕ) → bit_and nodes (2 ^ k) ≡ nodes / 2 ^ k % 2 * 2 ^ k
bit_and_lem nodes k =
    subst (λ (q : ℕ). bit_and nodes q ≡ nodes / 2 ^ k % 2 * 2 ^ k) (high_ones 1 k ∙ one-mul (2 ^ k)) (and_high nodes 1 k)

bit_of : (x : ℕ) → 1 ≤ x → x ≤ 64 → 1 * 2 ^ (x - 1) % 2 ^ 64 ≡ 2 ^ (x - 1)
bit_of x l h = shl_exact 1 (x - 1) 64 (omega arith) (omega arith) ∙ one-mul (2 ^ (x - 1))

-- a node in the set: its bit is the whole of `and`; a node not in it: none
bit_in : (nodes x : ℕ) → has_node nodes x ≡ true → bit_and nodes (2 ^ (x - 1)) ≡ 2 ^ (x - 1)
unfolding has_node
bit_in nodes x e =
    bit_and_lem nodes (x - 1) ∙ ap (λ (q : ℕ). q * 2 ^ (x - 1)) (eqb-true (nodes / 2 ^ (x - 1) % 2) 1 e) ∙ one-mul (2 ^ (x - 1))

bit_out : (nodes x : ℕ) → has_node nodes x ≡ false → bit_and nodes (2 ^ (x - 1)) ≡ 0
unfolding has_node
bit_out nodes x e =
    let l : nodes / 2 ^ (x - 1) % 2 < 2 = mod-lt _ (omega arith) in
    let z : nodes / 2 ^ (x - 1) % 2 ≡ 0 = omega (arith, eqb-false (nodes / 2 ^ (x - 1) % 2) 1 e) in
    bit_and_lem nodes (x - 1) ∙ ap (λ (q : ℕ). q * 2 ^ (x - 1)) z ∙ zero-mul (2 ^ (x - 1))

-- adding is `or`, removing exclusive or with the node's bit
pub add_or : (nodes x : ℕ) → bit_or nodes (2 ^ (x - 1)) ≡ add_node nodes x
unfolding add_node
add_or nodes x = go (has_node nodes x) refl
  where
    go : (b : Bool) → has_node nodes x ≡ b → bit_or nodes (2 ^ (x - 1)) ≡ cond b nodes (nodes + 2 ^ (x - 1))
    go true e = omega (arith, or_add_and nodes (2 ^ (x - 1)), bit_in nodes x e)
    go false e = omega (arith, or_add_and nodes (2 ^ (x - 1)), bit_out nodes x e)

pub remove_xor : (nodes x : ℕ) → has_node nodes x ≡ true → bit_xor nodes (2 ^ (x - 1)) ≡ remove_node nodes x
unfolding remove_node
remove_xor nodes x e = rw e (omega (arith, xor_add_and nodes (2 ^ (x - 1)), bit_in nodes x e))

pub remove_none : (nodes x : ℕ) → has_node nodes x ≡ false → nodes ≡ remove_node nodes x
unfolding remove_node
remove_none nodes x e = rw e

-- ---- what the code computes

pub has_code : (nodes x : ℕ) → eqb (bit_and (nodes / 2 ^ (x - 1)) 1) 1 ≡ has_node nodes x
unfolding has_node
has_code nodes x = ap (λ (q : ℕ). eqb q 1) (and_mask (nodes / 2 ^ (x - 1)) 1)

pub add_code : (nodes x : ℕ) → 1 ≤ x → x ≤ 64 → bit_or nodes (1 * 2 ^ (x - 1) % 2 ^ 64) ≡ add_node nodes x
add_code nodes x l h = ap (bit_or nodes) (bit_of x l h) ∙ add_or nodes x

pub remove_code : (nodes x : ℕ) → 1 ≤ x → x ≤ 64 → has_node nodes x ≡ true
    → bit_xor nodes (1 * 2 ^ (x - 1) % 2 ^ 64) ≡ remove_node nodes x
remove_code nodes x l h e = ap (bit_xor nodes) (bit_of x l h) ∙ remove_xor nodes x e

-- no bit from place n on is set
pub below_code : (nodes n : ℕ) → eqb (nodes / 2 ^ n) 0 ≡ ltb nodes (2 ^ n)
below_code nodes n =
    same_test (eqb (nodes / 2 ^ n) 0) (ltb nodes (2 ^ n))
    (λ e. lt-ltb nodes (2 ^ n) (subst (λ (k : ℕ). nodes < k) (one-mul (2 ^ n)) ((div-lt_iff_lt-mul (pow_pos n)).0 (omega (arith, eqb-true (nodes / 2 ^ n) 0 e)))))
    (λ e. eq-eqb (nodes / 2 ^ n) 0 (div-eq_of_lt (ltb-true nodes (2 ^ n) e)))

-- ---- which nodes a set has

-- the bits of a power of two
bit_same : (k : ℕ) → 2 ^ k / 2 ^ k % 2 ≡ 1
bit_same k = ap (λ (q : ℕ). q % 2) (div_self (pow_pos k))

bit_other : (k m : ℕ) → m ≢ k → 2 ^ k / 2 ^ m % 2 ≡ 0
bit_other k m e = go (dec_lt m k)
  where
    go : Dec (m < k) → 2 ^ k / 2 ^ m % 2 ≡ 0
    go (yes l) =
        let w : k ≡ suc (k - suc m) + m = omega arith in
        ap (λ (q : ℕ). 2 ^ q / 2 ^ m % 2) w
        ∙ ap (λ (q : ℕ). q / 2 ^ m % 2) (pow-add 2 (suc (k - suc m)) m)
        ∙ ap (λ (q : ℕ). q % 2) (shl-shr (2 ^ suc (k - suc m)) m)
        ∙ ap (λ (q : ℕ). q % 2) (pow-suc 2 (k - suc m))
        ∙ mul-mod_left (2 ^ (k - suc m)) 2
    go (no g) = ap (λ (q : ℕ). q % 2) (div-eq_of_lt (pow-lt (omega arith)))

bit_or_lem : (a b m : ℕ) → bit_or a b / 2 ^ m % 2 ≡ bit_or (a / 2 ^ m % 2) (b / 2 ^ m % 2)
bit_or_lem a b m = ap (λ (q : ℕ). q % 2) (or_shr a b m) ∙ or_mod (a / 2 ^ m) (b / 2 ^ m) 1

bit_xor_lem : (a b m : ℕ) → bit_xor a b / 2 ^ m % 2 ≡ bit_xor (a / 2 ^ m % 2) (b / 2 ^ m % 2)
bit_xor_lem a b m = ap (λ (q : ℕ). q % 2) (xor_shr a b m) ∙ xor_mod (a / 2 ^ m) (b / 2 ^ m) 1

or_one : (a : ℕ) → a < 2 → bit_or a 1 ≡ 1
or_one zero h = or_zero_l 1
or_one (suc zero) h = or_self 1
or_one (suc (suc a)) h = absurd (omega arith)

apart : {u v : ℕ} → 1 ≤ u → 1 ≤ v → v ≢ u → v - 1 ≢ u - 1
apart a b e q = e (omega arith)

pub has_none : (u : ℕ) → has_node 0 u ≡ false
unfolding has_node
has_none u = ap (λ (q : ℕ). eqb (q % 2) 1) (zero-div (2 ^ (u - 1)))

pub has_added : (nodes u : ℕ) → has_node (add_node nodes u) u ≡ true
unfolding has_node
has_added nodes u =
    eq-eqb _ 1
    (ap (λ (q : ℕ). q / 2 ^ (u - 1) % 2) (sym (add_or nodes u))
    ∙ bit_or_lem nodes (2 ^ (u - 1)) (u - 1)
    ∙ ap (bit_or (nodes / 2 ^ (u - 1) % 2)) (bit_same (u - 1))
    ∙ or_one (nodes / 2 ^ (u - 1) % 2) (mod-lt _ (omega arith)))

pub has_add_other : (nodes u v : ℕ) → 1 ≤ u → 1 ≤ v → v ≢ u → has_node (add_node nodes u) v ≡ has_node nodes v
unfolding has_node
has_add_other nodes u v a b e =
    ap (λ (q : ℕ). eqb q 1)
    (ap (λ (q : ℕ). q / 2 ^ (v - 1) % 2) (sym (add_or nodes u))
    ∙ bit_or_lem nodes (2 ^ (u - 1)) (v - 1)
    ∙ ap (bit_or (nodes / 2 ^ (v - 1) % 2)) (bit_other (u - 1) (v - 1) (apart a b e))
    ∙ or_zero_r (nodes / 2 ^ (v - 1) % 2))

-- a node of the set with u is u, or a node of the set
pub has_add : (nodes u v : ℕ) → 1 ≤ u → 1 ≤ v → has_node (add_node nodes u) v ≡ true → (v ≡ u) ⊎ (has_node nodes v ≡ true)
has_add nodes u v a b h = go (ℕ_discrete v u)
  where
    go : Dec (v ≡ u) → (v ≡ u) ⊎ (has_node nodes v ≡ true)
    go (yes e) = inl e
    go (no e) = inr (sym (has_add_other nodes u v a b e) ∙ h)

-- what was in the set stays in it with u
pub add_keeps : (nodes u v : ℕ) → 1 ≤ u → 1 ≤ v → has_node nodes v ≡ true → has_node (add_node nodes u) v ≡ true
add_keeps nodes u v a b h = go (ℕ_discrete v u)
  where
    go : Dec (v ≡ u) → has_node (add_node nodes u) v ≡ true
    go (yes e) = ap (has_node (add_node nodes u)) e ∙ has_added nodes u
    go (no e) = has_add_other nodes u v a b e ∙ h

cleared : (nodes u : ℕ) → has_node nodes u ≡ true → has_node (bit_xor nodes (2 ^ (u - 1))) u ≡ false
unfolding has_node
cleared nodes u e =
    ap (λ (q : ℕ). eqb q 1)
    (bit_xor_lem nodes (2 ^ (u - 1)) (u - 1) ∙ ap₂ bit_xor (eqb-true (nodes / 2 ^ (u - 1) % 2) 1 e) (bit_same (u - 1)) ∙ xor_self 1)

left : (nodes u v : ℕ) → v - 1 ≢ u - 1 → has_node (bit_xor nodes (2 ^ (u - 1))) v ≡ has_node nodes v
unfolding has_node
left nodes u v n =
    ap (λ (q : ℕ). eqb q 1)
    (bit_xor_lem nodes (2 ^ (u - 1)) (v - 1)
    ∙ ap (bit_xor (nodes / 2 ^ (v - 1) % 2)) (bit_other (u - 1) (v - 1) n)
    ∙ xor_zero_r (nodes / 2 ^ (v - 1) % 2))

pub has_removed : (nodes u : ℕ) → has_node (remove_node nodes u) u ≡ false
has_removed nodes u = go (true_or_false (has_node nodes u))
  where
    go : (has_node nodes u ≡ true) ⊎ (has_node nodes u ≡ false) → has_node (remove_node nodes u) u ≡ false
    go (inr e) = ap (λ (q : ℕ). has_node q u) (sym (remove_none nodes u e)) ∙ e
    go (inl e) = ap (λ (q : ℕ). has_node q u) (sym (remove_xor nodes u e)) ∙ cleared nodes u e

pub has_remove_other : (nodes u v : ℕ) → 1 ≤ u → 1 ≤ v → v ≢ u → has_node (remove_node nodes u) v ≡ has_node nodes v
has_remove_other nodes u v a b n = go (true_or_false (has_node nodes u))
  where
    go : (has_node nodes u ≡ true) ⊎ (has_node nodes u ≡ false) → has_node (remove_node nodes u) v ≡ has_node nodes v
    go (inr e) = ap (λ (q : ℕ). has_node q v) (sym (remove_none nodes u e))
    go (inl e) = ap (λ (q : ℕ). has_node q v) (sym (remove_xor nodes u e)) ∙ left nodes u v (apart a b n)

-- a node of the set without u is another node of the set
pub has_remove : (nodes u v : ℕ) → 1 ≤ u → 1 ≤ v → has_node (remove_node nodes u) v ≡ true → (v ≢ u) × (has_node nodes v ≡ true)
has_remove nodes u v a b h = (other, sym (has_remove_other nodes u v a b other) ∙ h)
  where
    other : v ≢ u
    other e = not_both (has_node (remove_node nodes u) v) h (ap (has_node (remove_node nodes u)) e ∙ has_removed nodes u)

-- a set below 2 ^ n names no node above n, and stays below with a node up to n
pub has_within : (nodes n u : ℕ) → nodes < 2 ^ n → has_node nodes u ≡ true → u ≤ n
unfolding has_node
has_within nodes n u l e = go (dec_lt n u)
  where
    go : Dec (n < u) → u ≤ n
    go (no g) = omega arith
    go (yes g) =
        let m : 2 ^ n ≤ 2 ^ (u - 1) = pow_mono (omega arith) in
        let z : nodes / 2 ^ (u - 1) ≡ 0 = div-eq_of_lt (omega arith) in
        absurd (not_both (eqb (nodes / 2 ^ (u - 1) % 2) 1) e (ap (λ (q : ℕ). eqb (q % 2) 1) z))

-- and one that names no node above m is below 2 ^ m
pub has_below : (nodes n m : ℕ) → nodes < 2 ^ n → ((u : ℕ) → 1 ≤ u → u ≤ n → has_node nodes u ≡ true → u ≤ m) → nodes < 2 ^ m
unfolding has_node
has_below nodes zero m l f = omega (arith, pow_pos m, l)
has_below nodes (suc n) m l f = go (λ h. has_below nodes n m h (λ u low high. f u low (omega arith))) (dec_lt nodes (2 ^ n))
  where
    go : (nodes < 2 ^ n → nodes < 2 ^ m) → Dec (nodes < 2 ^ n) → nodes < 2 ^ m
    go fewer (yes h) = fewer h
    go fewer (no g) =
        let least : 1 ≤ nodes / 2 ^ n = (le-div_iff_mul-le (pow_pos n)).1 (omega (arith, one-mul (2 ^ n))) in
        let most : nodes / 2 ^ n < 2 = (div-lt_iff_lt-mul (pow_pos n)).1 (omega (arith, l, pow-suc 2 n)) in
        let last : suc n - 1 ≡ n = omega arith in
        let one : nodes / 2 ^ n ≡ 1 = omega arith in
        let has = eq-eqb (nodes / 2 ^ (suc n - 1) % 2) 1 (ap (λ (k : ℕ). nodes / 2 ^ k % 2) last ∙ ap (λ (q : ℕ). q % 2) one) in
        let top : suc n ≤ m = f (suc n) (omega arith) (omega arith) has in
        omega (arith, l, pow_mono top)

-- a set that is not empty has a node
pub has_some : (nodes n : ℕ) → 0 < nodes → nodes < 2 ^ n → (u : ℕ) × (1 ≤ u) × (u ≤ n) × (has_node nodes u ≡ true)
has_some nodes n some l =
    let w = any_found n (node (has_node nodes)) (back_true _ true (λ e. absurd (omega (arith, some, empty e))) refl) in
    (w.0 + 1, omega arith, omega (arith, w.1), w.2)
  where
    empty : any_below n (node (has_node nodes)) ≡ false → nodes < 2 ^ 0
    empty e = has_below nodes n 0 l (λ u low high h. absurd (not_both _ h (no_node_at n (has_node nodes) e u low high)))

pub add_within : (nodes n u : ℕ) → nodes < 2 ^ n → 1 ≤ u → u ≤ n → add_node nodes u < 2 ^ n
add_within nodes n u l a h = subst (λ (q : ℕ). q < 2 ^ n) (add_or nodes u) (or_lt n nodes (2 ^ (u - 1)) l (pow-lt (omega arith)))

pub remove_le : (nodes u : ℕ) → remove_node nodes u ≤ nodes
unfolding remove_node
remove_le nodes u = go (has_node nodes u)
  where
    go : (b : Bool) → cond b (nodes - 2 ^ (u - 1)) nodes ≤ nodes
    go true = omega arith
    go false = omega arith
