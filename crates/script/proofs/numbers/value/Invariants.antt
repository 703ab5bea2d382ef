-- the word is the number of what is left of it, behind the value so far
use Rattle.std.proofs.Common.{◌≡◌, ◌<◌}
use Rattle.script.specs.Numbers.{number_of}
use Rattle.script.proofs.Values.{number_at}
use Rattle.script.proofs.numbers.value.Given as goal

abbrev pub invariant-loop-b : goal.invariant-loop-b
invariant-loop-b l = (number_of l.base l.text ≡ number_at l.base l.n l.text l.b-index) × (l.n < 18446744073709551616)
