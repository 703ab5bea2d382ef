-- A mask as the code works it out: the four bits from bit w on, as far as 32 bits go, and every bit below. Assumes nothing.
use Prim.Native.Nat.{ℕ, ◌+◌, ◌-◌, ◌*◌, ◌%◌, ◌^◌, ◌≤◌, ◌<◌, min}
use mathlib.Core.Path.{◌≡◌, refl, sym, ap, ◌∙◌}
use lib.Bits.{bit_or}
use lib.Dec.{eqb, leb}
use borrow.Author.Tests.{eqb-true, leb-true}
use Rattle.model.specs.Loops.{all_below}
use Rattle.model.specs.Ids.{suffix_mask}
use Rattle.model.proofs.Loops.{all_at}
use Rattle.model.proofs.Ids.{power_bits}

abbrev four_bits : ℕ → ℕ
four_bits w = 15 * 2 ^ w % 2 ^ 32

-- each of the 32 by computation
module _ (w : ℕ) (l : w < 32) where
  pub four_below : bit_or (four_bits w) (four_bits w - 1) ≡ 2 ^ min (w + 4) 32 - 1
  unfolding all_below
  four_below = eqb-true _ _ (all_at 32 (λ (k : ℕ). eqb (bit_or (four_bits k) (four_bits k - 1)) (2 ^ min (k + 4) 32 - 1)) refl w l)

-- the mask of n digits has the bits below 4n
pub mask_bits : (n b : ℕ) → b ≡ 4 * n → 2 ^ b - 1 ≡ suffix_mask n
unfolding suffix_mask
mask_bits n b e = ap (λ (k : ℕ). 2 ^ k - 1) e ∙ ap (λ (p : ℕ). p - 1) (sym (power_bits n))
