-- A label and a number, and the same as a line.
use Rattle.std.specs.Prelude.{ℕ, List, ◌++◌}
use Rattle.text.specs.Ascii.{ascii}
use Rattle.text.specs.Numbers.{decimal}

unfoldable pub labelled : List ℕ → ℕ → List ℕ
labelled label n = label ++ decimal n

unfoldable pub line : List ℕ → ℕ → List ℕ
line label n = labelled label n ++ ascii "\n"
