-- The fill program's output for an image, and what it leaves in its memory (document 02, Ticket 10).
use Rattle.std.specs.Prelude.{ℕ, Result, Ok, Err, ◌+◌, ◌*◌, cond, List, ◌++◌, eqb, get_or}
use Rattle.model.specs.Loops.{join_below}
use Rattle.model.specs.Memory.{Memory}
use Rattle.model.specs.Calls.{Outcome, read_call, fill_call}
use Rattle.state.specs.Lent.{memory}
use Rattle.text.specs.Ascii.{ascii}
use Rattle.text.specs.Lines.{labelled, line}
use Rattle.answers.specs.Numbers.{number_of}
use Rattle.answers.specs.declared.error.Refusal.{Refusal}
use Rattle.additions.specs.Listed.{blank}
use Rattle.image_program.specs.Printed.{line_one, answer_text, refused_line, image_text}

-- `record` and its numbers: node, level, digit and neighbour
unfoldable pub record_line : ℕ → ℕ → ℕ → ℕ → List ℕ
record_line x i j y = labelled (ascii "record ") x ++ (labelled (ascii " ") i ++ (labelled (ascii " ") j ++ line (ascii " ") y))

-- the line of record r of a list, which counts from 0
abbrev pub record_at : List ℕ → ℕ → List ℕ
record_at list r = record_line (get_or list (4 * r) 0) (get_or list (4 * r + 1) 0) (get_or list (4 * r + 2) 0) (get_or list (4 * r + 3) 0)

-- `added` and how many, then a line for each
unfoldable pub added_lines : ℕ → List ℕ → List ℕ
added_lines n list = line (ascii "added ") n ++ join_below n (record_at list)

-- a filling's answer as text; the list stands at the start of its output
abbrev pub fill_text : List ℕ → List ℕ → List ℕ
fill_text answer out = answer_text answer (added_lines (get_or answer 1 0) out)

-- what a filling that answered this is, as text
abbrev pub done_text : Result ℕ Refusal → List ℕ → List ℕ
done_text (Ok n) list = line_one 0 ++ added_lines n list
done_text (Err r) list = line_one (number_of r)

-- the filling of a network that was read
abbrev pub fills_to : Memory → Outcome
fills_to m = fill_call m blank

abbrev pub fill_of : Memory → List ℕ
fill_of m = fill_text (fills_to m).answer (fills_to m).out

-- the output for an image that is read into this memory
abbrev pub fill_lines : List ℕ → List ℕ → List ℕ → List ℕ
fill_lines s t im = image_text refused_line fill_of (memory s t) im

-- reading, and where that is taken filling
unfoldable pub read_and_filled : Memory → List ℕ → Outcome
read_and_filled m im = let r = read_call m im in cond (eqb (get_or r.answer 0 0) 0) (fills_to r.memory) r
