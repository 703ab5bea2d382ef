-- The first numbers of a list of fields, with zeros where it has fewer.
use Rattle.std.specs.Prelude.{ℕ, List, [], ◌∷◌, get_or}

abbrev pub first_four : List ℕ → List ℕ
first_four fields = get_or fields 0 0 ∷ get_or fields 1 0 ∷ get_or fields 2 0 ∷ get_or fields 3 0 ∷ []

-- the refusal and four more
abbrev pub first_five : List ℕ → List ℕ
first_five fields = get_or fields 0 0 ∷ get_or fields 1 0 ∷ get_or fields 2 0 ∷ get_or fields 3 0 ∷ get_or fields 4 0 ∷ []
