-- A word as a number. One that the bits do not hold is none: no number is cut off.
use Rattle.std.specs.Prelude.{ℕ, ◌+◌, ◌*◌, ◌-◌, Bool, true, not, cond, ◌&&◌, List, [], ◌∷◌, ltb, leb, Option, Some, None}
use Rattle.script.specs.Words.{is_empty}

-- a byte's code is from one to another
abbrev pub between : ℕ → ℕ → ℕ → Bool
between low high b = leb low b && leb b high

-- the value of a digit: `0` to `9`, `a` to `f` or `A` to `F`, by their codes; 16 for what is none
unfoldable pub digit : ℕ → ℕ
digit b = cond (between 48 57 b) (b - 48) (cond (between 97 102 b) (b - 97 + 10) (cond (between 65 70 b) (b - 65 + 10) 16))

-- each byte is a digit below the base
unfoldable pub are_digits : ℕ → List ℕ → Bool
are_digits base [] = true
are_digits base (b ∷ bs) = ltb (digit b) base && are_digits base bs

-- the value of digits that stand behind those of the value n
unfoldable pub value_from : ℕ → ℕ → List ℕ → ℕ
value_from base n [] = n
value_from base n (b ∷ bs) = value_from base (n * base + digit b) bs

-- a word of digits, one at least
unfoldable pub is_number : ℕ → List ℕ → Bool
is_number base w = not (is_empty w) && are_digits base w

unfoldable pub value_of : ℕ → List ℕ → ℕ
value_of base w = value_from base 0 w

-- a word as a number below 2^64 in a base
unfoldable pub number_of : ℕ → List ℕ → Option ℕ
number_of base w = cond (is_number base w && ltb (value_of base w) 18446744073709551616) (Some (value_of base w)) None

abbrev pub decimal_of : List ℕ → Option ℕ
decimal_of w = number_of 10 w

-- a word as an id: a number below 2^32 in hexadecimal
unfoldable pub hexadecimal_of : List ℕ → Option ℕ
hexadecimal_of w = cond (is_number 16 w && ltb (value_of 16 w) 4294967296) (Some (value_of 16 w)) None

-- a number with one more digit behind it, where it stays below 2^64
unfoldable pub with_digit : ℕ → ℕ → ℕ → Option ℕ
with_digit base n d = cond (ltb d base && ltb (n * base + d) 18446744073709551616) (Some (n * base + d)) None

-- what is made of a number, or of none
abbrev pub if_number : {A : Type 0} → Option ℕ → (ℕ → A) → A → A
if_number (Some n) make none = make n
if_number None make none = none
