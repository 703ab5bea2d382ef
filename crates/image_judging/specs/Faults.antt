-- The first record that fails a test, among those that are read.
use Rattle.std.specs.Prelude.{ℕ, zero, suc, Bool, not, Option, None}
use Rattle.std.specs.Option.{option_or}
use Rattle.std.specs.Bool.{then_some}

-- the first place of a fault, where it was `first` before and the record at `place` is good or not
abbrev pub noted : Option ℕ → Bool → ℕ → Option ℕ
noted first good place = option_or first (then_some (not good) place)

-- the place of the first of n records that fails the test, counted from 1
unfoldable pub fault_below : ℕ → (ℕ → Bool) → Option ℕ
fault_below zero test = None
fault_below (suc n) test = noted (fault_below n test) (test n) (suc n)
