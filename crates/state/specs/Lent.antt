-- The two lent memories as one.
use Rattle.std.specs.Prelude.{ℕ, List}
use Rattle.model.specs.Memory.{Memory}

-- state and tables as the book's memory
abbrev pub memory : List ℕ → List ℕ → Memory
memory s t = record { state = s; tables = t }
