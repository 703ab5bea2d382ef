-- What refuses a trace on a sound state, and the answer in numbers.
use Rattle.std.specs.Prelude.{ℕ, List, ◌∷◌}
use Rattle.model.specs.Refusals.{first_true, trace_sentences, trace_place}
use Rattle.state.specs.Lent.{memory}

-- 22, 9 and 23
unfoldable pub sentences_refusal : List ℕ → List ℕ → List ℕ → ℕ
sentences_refusal s t trace = first_true (trace_sentences (memory s t) trace)

-- a refusal of the trace, with its path and place
abbrev pub answer_of : List ℕ → List ℕ → List ℕ → ℕ → List ℕ
answer_of s t trace number = number ∷ trace_place (memory s t) trace number
