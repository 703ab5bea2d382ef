-- `blank`: its length by the law of replicate, since the list is too long to compute. Assumes nothing.
use Prim.Native.Nat.{ℕ}
use mathlib.Core.Path.{◌≡◌, refl}
use lib.ListN.{length, replicate, length-replicate}
use Rattle.additions.specs.Listed.{blank}
use Rattle.additions.proofs.blank.Goals as goal

sized : (n : ℕ) → length (replicate {A = ℕ} n 0) ≡ n
sized n = length-replicate n 0

pub returns : goal.returns
unfolding blank
returns c = (refl, sized 21504)
