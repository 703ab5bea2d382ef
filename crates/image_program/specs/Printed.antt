-- What every program over images prints (document 01, "The image", the second paragraph): `refusal` with its number, and on 0 the lines of the
-- program.
use Rattle.std.specs.Prelude.{ℕ, cond, List, ◌++◌, eqb, get_or}
use Rattle.model.specs.Memory.{Memory}
use Rattle.model.specs.Calls.{read_call}
use Rattle.text.specs.Ascii.{ascii}
use Rattle.text.specs.Lines.{line}

unfoldable pub line_one : ℕ → List ℕ
line_one number = line (ascii "refusal ") number

-- of an answer, which has its refusal first: line one, and on 0 these lines behind it
unfoldable pub answer_text : List ℕ → List ℕ → List ℕ
answer_text answer lines = cond (eqb (get_or answer 0 0) 0) (line_one 0 ++ lines) (line_one (get_or answer 0 0))

-- line one alone, of a refused reading's answer
abbrev pub refused_line : List ℕ → List ℕ
refused_line answer = line_one (get_or answer 0 0)

-- the output for an image that is read into memory m: where reading refuses it, the text of its answer, else the text of what was read
unfoldable pub image_text : (List ℕ → List ℕ) → (Memory → List ℕ) → Memory → List ℕ → List ℕ
image_text refusal text m im =
    let r = read_call m im in
    cond (eqb (get_or r.answer 0 0) 0) (text r.memory) (refusal r.answer)
