-- How many nodes the entries of node x are short.
use Rattle.std.specs.Prelude.{ℕ, List}
use Rattle.model.specs.Loops.{sum_below}
use Rattle.model.specs.Memory.{base, digits}
use Rattle.model.specs.Fill.{short_by}

-- those of level i together
abbrev pub level_short_by : List ℕ → List ℕ → ℕ → ℕ → ℕ
level_short_by s t x i = sum_below (base s) (short_by s t x i)

abbrev pub node_short_by : List ℕ → List ℕ → ℕ → ℕ
node_short_by s t x = sum_below (digits s) (level_short_by s t x)
