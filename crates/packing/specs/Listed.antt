-- The numbers of an answer as a list.
use Rattle.std.specs.Prelude.{ℕ, List, ◌∷◌}
use Rattle.packing.specs.declared.numbers.Numbers.{Numbers}

abbrev pub listed : Numbers → List ℕ
listed n = n.refusal ∷ n.fields
