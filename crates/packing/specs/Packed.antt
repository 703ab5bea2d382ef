-- An answer packed into one number.
use Rattle.std.specs.Prelude.{ℕ, ◌+◌, ◌*◌, ◌<◌, List, [], ◌∷◌}

-- the answer's fields, a byte each and the first lowest: the refusal, plus 256 times the next field, plus 65,536 times the one after ..
unfoldable pub packed : List ℕ → ℕ
packed [] = 0
packed (field ∷ fields) = field + 256 * packed fields

-- the packed answer fits 64 bits
abbrev pub Fits : List ℕ → Type 0
Fits fields = packed fields < 18446744073709551616
