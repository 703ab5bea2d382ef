-- The lent memory up to its fixed lengths, and what lies past them.
use Rattle.std.specs.Prelude.{take, drop}
use Rattle.model.specs.Memory.{Memory, state_length, tables_length}

-- the words and bytes of the fixed lengths
abbrev pub fixed : Memory → Memory
fixed m = record { state = take state_length m.state; tables = take tables_length m.tables }

-- the words and bytes behind them
abbrev pub past : Memory → Memory
past m = record { state = drop state_length m.state; tables = drop tables_length m.tables }
