-- `read_full`: what stands at the start of the memory is what was taken from the input.
use Rattle.std.proofs.Common.{◌≡◌, ◌-◌, ◌≤◌, length, take}
use Rattle.std.specs.Io.KnownBytes.{Consumes}
use Rattle.input.proofs.read_full.Given as goal

abbrev pub invariant-loop-at : goal.invariant-loop-at
invariant-loop-at g l =
    (length l.memory ≡ length l.initial.memory)
    × (l.at ≤ length l.memory)
    × Consumes (g.R.Read.remaining l.initial.input) (g.R.Read.remaining l.input) (take l.at l.memory)

abbrev pub decreases-loop-at : goal.decreases-loop-at
decreases-loop-at g l = length l.memory - l.at
