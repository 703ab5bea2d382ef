-- Loops below a number. Each goes through 0, 1, .., n − 1 in this order.
use Rattle.std.specs.Prelude.{ℕ, zero, suc, ◌+◌, Bool, true, false, cond, ◌&&◌, ◌||◌, List, [], ◌++◌, ltb}

-- the test f holds at every index below n
unfoldable pub all_below : ℕ → (ℕ → Bool) → Bool
all_below zero f = true
all_below (suc n) f = all_below n f && f n

-- the test f holds at some index below n
unfoldable pub any_below : ℕ → (ℕ → Bool) → Bool
any_below zero f = false
any_below (suc n) f = any_below n f || f n

-- at how many indices below n the test f holds
unfoldable pub count_below : ℕ → (ℕ → Bool) → ℕ
count_below zero f = 0
count_below (suc n) f = count_below n f + cond (f n) 1 0

-- the sum of f 0, f 1, ..
unfoldable pub sum_below : ℕ → (ℕ → ℕ) → ℕ
sum_below zero f = 0
sum_below (suc n) f = sum_below n f + f n

-- the first index below n at which the test f holds; n where there is none
unfoldable pub first_below : ℕ → (ℕ → Bool) → ℕ
first_below zero f = 0
first_below (suc n) f = let k = first_below n f in cond (ltb k n) k (cond (f n) n (suc n))

-- a, changed by a step for each index below n
unfoldable pub each_below {ℓ} : {A : Type ℓ} → ℕ → (ℕ → A → A) → A → A
each_below zero step a = a
each_below (suc n) step a = step n (each_below n step a)

-- the lists f 0, f 1, .., joined into one
unfoldable pub join_below : ℕ → (ℕ → List ℕ) → List ℕ
join_below zero f = []
join_below (suc n) f = join_below n f ++ f n

-- f at the node with this index: nodes are numbered from 1
abbrev pub node {ℓ} : {A : Type ℓ} → (ℕ → A) → ℕ → A
node f k = f (k + 1)
