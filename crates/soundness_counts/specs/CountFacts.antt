-- What the check of the counts cites. s is the state.
use Rattle.std.specs.Prelude.{ℕ, List}
use Rattle.model.proofs.Status.{IsNode, StatusOk}

-- the status of each node keeps its rules
abbrev pub StatusesOk : List ℕ → Type 0
StatusesOk s = (x : ℕ) → IsNode s x → StatusOk s x
