-- Where a trace has its first fault of a kind, as the code holds it: path and place count from 1.
use Rattle.std.specs.Prelude.{ℕ, Bool, cond, Option, None, Some, get_or}
use Rattle.model.specs.Traces.{in_paths, first_fault}
use Rattle.traces.specs.declared.fault.Fault.{Fault}

-- where the test first fails in the first n paths
unfoldable pub fault_in : ℕ → (ℕ → ℕ) → (ℕ → ℕ → Bool) → Option Fault
fault_in n size test =
    let first = first_fault n size test in
    cond (in_paths n size test) None (Some (record { path = get_or first 0 0; place = get_or first 1 0 }))
