-- A survey as text: how many pairs there are, then a line for each number of hops from 1 to d and one for the lost pairs, each with its count and a
-- bar. C are the counts: place h − 1 for h hops, place 8 for lost.
use Rattle.std.specs.Prelude.{ℕ, ◌+◌, ◌-◌, ◌*◌, ◌/◌, cond, List, [], ◌++◌, eqb, ltb, get_or, replicate}
use Rattle.model.specs.Loops.{sum_below, join_below}
use Rattle.text.specs.Ascii.{ascii}
use Rattle.text.specs.Numbers.{decimal}
use Rattle.text.specs.Lines.{labelled}

-- how many pairs are counted at a place
abbrev pub pairs_at : List ℕ → ℕ → ℕ
pairs_at C k = get_or C k 0

-- all pairs
unfoldable pub all_pairs : List ℕ → ℕ
all_pairs C = sum_below 9 (pairs_at C)

-- spaces that end a number of up to four digits in the same column
unfoldable pub indent : ℕ → List ℕ
indent n = cond (ltb n 10) (ascii "   ") (cond (ltb n 100) (ascii "  ") (cond (ltb n 1000) (ascii " ") []))

-- one mark for each started fiftieth of the pairs
abbrev pub marks : ℕ → ℕ → ℕ
marks count pairs = (count * 50 + pairs - 1) / pairs

-- a bar of `#`, code 35; none for no pairs
unfoldable pub bar_text : ℕ → ℕ → List ℕ
bar_text count pairs = cond (eqb count 0) [] (ascii " " ++ replicate (marks count pairs) 35)

-- a count with its bar, to the line's end
unfoldable pub count_text : ℕ → ℕ → List ℕ
count_text count pairs = indent count ++ (decimal count ++ (bar_text count pairs ++ ascii "\n"))

unfoldable pub hop_text : List ℕ → ℕ → List ℕ
hop_text C k = labelled (ascii "  hops ") (k + 1) ++ (ascii " " ++ count_text (pairs_at C k) (all_pairs C))

unfoldable pub lost_text : List ℕ → List ℕ
lost_text C = ascii "  lost   " ++ count_text (pairs_at C 8) (all_pairs C)

unfoldable pub survey_said : ℕ → List ℕ → List ℕ
survey_said d C =
    labelled (ascii "survey: ") (all_pairs C) ++ (ascii " pairs\n" ++ (join_below d (hop_text C) ++ lost_text C))
