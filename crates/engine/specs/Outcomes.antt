-- What a public call leaves, as the book's outcome.
use Rattle.std.specs.Prelude.{ℕ, List, []}
use Rattle.model.specs.Memory.{Memory}
use Rattle.model.specs.Calls.{Outcome}

-- the memory and the output after a writing, and the answer's fields
abbrev pub writes : Memory → List ℕ → List ℕ → Outcome
writes m out answer = record { memory = m; out = out; answer = answer }

-- the memory after a call with no memory for output, and the answer's fields
abbrev pub leaves : Memory → List ℕ → Outcome
leaves m answer = record { memory = m; out = []; answer = answer }
