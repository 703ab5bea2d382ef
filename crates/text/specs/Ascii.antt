-- Text as a list of codes.
use Rattle.std.specs.Prelude.{ℕ, List, [], ◌∷◌}
use Prim.Native.Char.{code}
use Prim.Native.String.{String}
use Prim.Native.String as text

-- the codes of a text's characters
abbrev pub ascii : String → List ℕ
ascii text.[] = []
ascii (text.◌∷◌ c cs) = code c ∷ ascii cs
