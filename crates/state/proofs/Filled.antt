-- Places filled from the front with one value, one store a turn. Assumes nothing.
use Prim.Native.Nat.{ℕ, zero, suc, ◌+◌, ◌<◌}
use mathlib.Core.Path.{◌≡◌, refl, ap}
use mathlib.Core.List.{List, [], ◌∷◌, ◌++◌}
use native.Mathlib.Nat.{not-suc-le-zero, le_of_suc-le-suc}
use native.Mathlib.Numerals.{add-one}
use lib.ListN.{length, set, drop, replicate}

fill_suc : {X : Type 0} (n : ℕ) (v : X) (d : List X) → n < length d
    → set (replicate n v ++ drop n d) n v ≡ replicate (suc n) v ++ drop (suc n) d
fill_suc n v [] l = absurd (not-suc-le-zero l)
fill_suc zero v (x ∷ d) l = refl
fill_suc (suc n) v (x ∷ d) l = ap (λ t. v ∷ t) (fill_suc n v d (le_of_suc-le-suc l))

-- one place more
pub fill_more : {X : Type 0} (n : ℕ) (v : X) (d : List X) → n < length d
    → set (replicate n v ++ drop n d) n v ≡ replicate (n + 1) v ++ drop (n + 1) d
fill_more n v d l = rw add-one (fill_suc n v d l)
