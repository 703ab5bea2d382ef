-- The survey program's output for an image (document 02, Ticket 1).
use Rattle.std.specs.Prelude.{ℕ, ◌+◌, List, ◌++◌, get_or, drop}
use Rattle.model.specs.Loops.{join_below}
use Rattle.model.specs.Memory.{Memory, digits}
use Rattle.model.specs.Calls.{survey_call}
use Rattle.state.specs.Lent.{memory}
use Rattle.text.specs.Ascii.{ascii}
use Rattle.text.specs.Lines.{labelled, line}
use Rattle.image_program.specs.Printed.{answer_text, refused_line, image_text}

-- `hops`, their number, and how many pairs arrive in so many
unfoldable pub hop_line : ℕ → ℕ → List ℕ
hop_line h pairs = labelled (ascii "hops ") h ++ line (ascii " ") pairs

-- the line for k + 1 hops; C are the counts
abbrev pub hop_at : List ℕ → ℕ → List ℕ
hop_at C k = hop_line (k + 1) (get_or C k 0)

-- the lines for 1 to d hops, and `lost` with how many are
unfoldable pub count_lines : ℕ → List ℕ → List ℕ
count_lines d C = join_below d (hop_at C) ++ line (ascii "lost ") (get_or C 8 0)

-- a survey's answer as text; the counts stand behind the refusal
abbrev pub survey_text : ℕ → List ℕ → List ℕ
survey_text d answer = answer_text answer (count_lines d (drop 1 answer))

abbrev pub survey_of : Memory → List ℕ
survey_of m = survey_text (digits m.state) (survey_call m 0).answer

-- the output for an image that is read into this memory
abbrev pub survey_lines : List ℕ → List ℕ → List ℕ → List ℕ
survey_lines s t im = image_text refused_line survey_of (memory s t) im
