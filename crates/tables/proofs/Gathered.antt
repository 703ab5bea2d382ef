-- Places gathered by `or`. Assumes nothing.
use Prim.Native.Nat.{ℕ}
use mathlib.Core.Path.{◌≡◌, sym, ap, ◌∙◌}
use mathlib.Core.Bool.{Bool, ◌&&◌}
use lib.Bits.{bit_or}
use lib.Dec.{eqb}
use Rattle.model.specs.Loops.{all_below}
use Rattle.model.proofs.Loops.{all_zero_lem, all_step}
use Rattle.model.proofs.Zero.{gather_goes}

-- four places gathered by `or` are zero exactly when each is
pub four_zero : (f : ℕ → Bool) (a b c d : ℕ) → eqb a 0 ≡ f 0 → eqb b 0 ≡ f 1 → eqb c 0 ≡ f 2 → eqb d 0 ≡ f 3
    → eqb (bit_or (bit_or (bit_or a b) c) d) 0 ≡ all_below 4 f
four_zero f a b c d p q r s =
    gather_goes 3 f (bit_or (bit_or a b) c) d (gather_goes 2 f (bit_or a b) c (gather_goes 1 f a b one q) r) s
  where
    one : eqb a 0 ≡ all_below 1 f
    one = p ∙ ap (λ (t : Bool). t && f 0) (sym (all_zero_lem f)) ∙ sym (all_step 0 f)
