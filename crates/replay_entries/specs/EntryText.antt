-- An entry in words, and the additions to entries.
use Rattle.std.specs.Prelude.{ℕ, ◌+◌, ◌*◌, List, ◌++◌, get_or}
use Rattle.text.specs.Ascii.{ascii}
use Rattle.text.specs.Numbers.{hexadecimal}
use Rattle.text.specs.Lines.{labelled, line}

-- an entry by its node, level and digit, behind a label; the digit is hexadecimal
unfoldable pub place_text : List ℕ → ℕ → ℕ → ℕ → List ℕ
place_text label x i j = labelled label x ++ (labelled (ascii " level ") i ++ (ascii " digit " ++ hexadecimal 1 j))

-- the entry, and the neighbour that it gains
unfoldable pub addition_text : ℕ → ℕ → ℕ → ℕ → List ℕ
addition_text x i j y = place_text (ascii "  node ") x i j ++ line (ascii " gains ") y

-- addition r of a list, which counts from 0
abbrev pub addition_at : List ℕ → ℕ → List ℕ
addition_at list r = addition_text (get_or list (4 * r) 0) (get_or list (4 * r + 1) 0) (get_or list (4 * r + 2) 0) (get_or list (4 * r + 3) 0)
