use mathlib.Core.Path.{◌≡◌}
use lib.ListN.{replicate}
use Rattle.model.specs.Loops.{each_below}
use Rattle.model.specs.Tables.{own_slot}
use Rattle.tables.proofs.own.own_table.Given as goal

abbrev pub invariant-loop-i : goal.invariant-loop-i
invariant-loop-i l = l.table ≡ each_below l.i (own_slot l.id l.x) (replicate 512 0)
