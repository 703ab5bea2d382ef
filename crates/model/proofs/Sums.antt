-- Laws of sums below a number, and of counts as sums. Assumes nothing.
use Prim.Native.Nat.{ℕ, zero, suc, ◌+◌, ◌*◌, ◌≤◌, ◌<◌}
use mathlib.Core.Path.{◌≡◌, refl, sym, ap, ap₂, ◌∙◌}
use mathlib.Core.Logic.{◌≢◌}
use mathlib.Core.Bool.{Bool, true, false, cond}
use native.Mathlib.Nat.{mul-zero, zero-mul, suc-mul, le_step, lt-suc_self, le_antisymm}
use native.Mathlib.Numerals.{add-one}
use native.Mathlib.Decide.{le_ind}
use native.Mathlib.Omega.{arith}
use Rattle.model.specs.Loops.{count_below, sum_below}
use Rattle.model.proofs.Loops.{count_some, sum_same}
use Rattle.model.proofs.Counting.{count_one}

-- what the test counts
abbrev pub bit : Bool → ℕ
bit b = cond b 1 0

abbrev pub bits : (ℕ → Bool) → ℕ → ℕ
bits f k = bit (f k)

pub count_sum : (n : ℕ) (f : ℕ → Bool) → count_below n f ≡ sum_below n (bits f)
unfolding count_below sum_below
count_sum zero f = refl
count_sum (suc n) f = ap (λ (c : ℕ). c + bit (f n)) (count_sum n f)

pub sum_step : (n : ℕ) (f : ℕ → ℕ) → sum_below (n + 1) f ≡ sum_below n f + f n
unfolding sum_below
sum_step n f = rw add-one

-- a sum of sums
sum_add : (n : ℕ) (f g : ℕ → ℕ) → sum_below n (λ k. f k + g k) ≡ sum_below n f + sum_below n g
unfolding sum_below
sum_add zero f g = refl
sum_add (suc n) f g = omega (arith, sum_add n f g)

-- the same number each time
sum_const : (n c : ℕ) (f : ℕ → ℕ) → ((k : ℕ) → k < n → f k ≡ c) → sum_below n f ≡ n * c
unfolding sum_below
sum_const zero c f h = sym (zero-mul c)
sum_const (suc n) c f h =
    ap₂ ◌+◌ (sum_const n c f (λ k l. h k (le_step l))) (h n (lt-suc_self n)) ∙ sym (suc-mul n c)

pub sum_none : (n : ℕ) (f : ℕ → ℕ) → ((k : ℕ) → k < n → f k ≡ 0) → sum_below n f ≡ 0
sum_none n f h = sum_const n 0 f h ∙ mul-zero n

pub sum_le : (n c : ℕ) (f : ℕ → ℕ) → ((k : ℕ) → k < n → f k ≤ c) → sum_below n f ≤ n * c
unfolding sum_below
sum_le zero c f h = omega arith
sum_le (suc n) c f h =
    let e : suc n * c ≡ n * c + c = suc-mul n c in
    omega (arith, sum_le n c f (λ k l. h k (le_step l)), h n (lt-suc_self n))

-- the same number each time that a test holds
pub sum_where : (n c : ℕ) (f : ℕ → Bool) → sum_below n (λ k. cond (f k) c 0) ≡ count_below n f * c
unfolding sum_below count_below
sum_where zero c f = sym (zero-mul c)
sum_where (suc n) c f = go (f n) (sum_where n c f)
  where
    go : (b : Bool) → sum_below n (λ k. cond (f k) c 0) ≡ count_below n f * c
        → sum_below n (λ k. cond (f k) c 0) + cond b c 0 ≡ (count_below n f + cond b 1 0) * c
    go true e = let w : suc (count_below n f) * c ≡ count_below n f * c + c = suc-mul (count_below n f) c in rw add-one (omega arith)
    go false e = let w : count_below n f + 0 ≡ count_below n f = omega arith in rw w (omega arith)

-- a summand is at most the sum
pub sum_at : (n : ℕ) (f : ℕ → ℕ) (k : ℕ) → k < n → f k ≤ sum_below n f
unfolding sum_below
sum_at n f k l = le_ind (λ (n : ℕ). f k ≤ sum_below n f) (omega arith) (λ m g h. omega (arith, h)) n l

-- what is 0 from d on adds nothing
pub sum_up_to : (d n : ℕ) (f : ℕ → ℕ) → d ≤ n → ((k : ℕ) → d ≤ k → k < n → f k ≡ 0) → sum_below n f ≡ sum_below d f
unfolding sum_below
sum_up_to d n f l =
    le_ind (λ (n : ℕ). ((k : ℕ) → d ≤ k → k < n → f k ≡ 0) → sum_below n f ≡ sum_below d f) (λ h. refl)
    (λ m g same h. omega (arith, same (λ k a b. h k a (le_step b)), h m g (lt-suc_self m))) n l

-- where the parts F 0 u, F 1 u, .. and G u make up T u for each u, the sums of the parts make up the sum of T
pub sum_parts : (d n : ℕ) (F : ℕ → ℕ → ℕ) (G T : ℕ → ℕ) → ((u : ℕ) → u < n → sum_below d (λ k. F k u) + G u ≡ T u)
    → sum_below d (λ k. sum_below n (F k)) + sum_below n G ≡ sum_below n T
unfolding sum_below
sum_parts d zero F G T h = omega (arith, sum_none d (λ k. 0) (λ k l. refl))
sum_parts d (suc n) F G T h =
    let both : sum_below d (λ k. sum_below n (F k) + F k n) ≡ sum_below d (λ k. sum_below n (F k)) + sum_below d (λ k. F k n) =
    sum_add d (λ k. sum_below n (F k)) (λ k. F k n) in
    omega (arith, both, sum_parts d n F G T (λ u l. h u (le_step l)), h n (lt-suc_self n))

-- the same of counts
pub count_parts : (d n : ℕ) (f : ℕ → ℕ → Bool) (g t : ℕ → Bool) → ((u : ℕ) → u < n → sum_below d (λ k. bit (f k u)) + bit (g u) ≡ bit (t u))
    → sum_below d (λ k. count_below n (f k)) + count_below n g ≡ count_below n t
count_parts d n f g t h =
    ap₂ ◌+◌ (sum_same d (λ k. count_below n (f k)) (λ k. sum_below n (bits (f k))) (λ k l. count_sum n (f k))) (count_sum n g)
    ∙ sum_parts d n (λ k. bits (f k)) (bits g) (bits t) h
    ∙ sym (count_sum n t)

-- a test that holds at one index and no other
pub count_only : (n : ℕ) (f : ℕ → Bool) (j : ℕ) → j < n → f j ≡ true → ((k : ℕ) → k < n → f k ≡ true → k ≡ j) → count_below n f ≡ 1
count_only n f j l e only =
    le_antisymm (count_one n f (λ p q lp lq ep eq. only p lp ep ∙ sym (only q lq eq))) (count_some n f j l e)

-- a sum of which one summand is one less
pub sum_less : (n : ℕ) (f g : ℕ → ℕ) (k : ℕ) → k < n → f k + 1 ≡ g k → ((m : ℕ) → m < n → m ≢ k → f m ≡ g m) → sum_below n f + 1 ≡ sum_below n g
unfolding sum_below
sum_less n f g k l e =
    le_ind (λ (n : ℕ). ((m : ℕ) → m < n → m ≢ k → f m ≡ g m) → sum_below n f + 1 ≡ sum_below n g)
    (λ h. omega (arith, e, sum_same k f g (λ m q. h m (le_step q) (λ p. omega (arith, p, q)))))
    (λ m q ih h. omega (arith, ih (λ p a. h p (le_step a)), h m (lt-suc_self m) (λ p. omega (arith, p, q)))) n l
