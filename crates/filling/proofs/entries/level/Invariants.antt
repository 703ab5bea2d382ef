use mathlib.Core.Path.{◌≡◌}
use lib.ListN.{length}
use Rattle.model.specs.Loops.{each_below}
use Rattle.model.specs.Fill.{fill_entry}
use Rattle.filling.specs.Sofar.{sofar, Listed}
use Rattle.filling.proofs.entries.level.Given as goal

abbrev pub invariant-loop-j : goal.invariant-loop-j
invariant-loop-j l = (length l.tables ≡ length l.initial.tables)
    × (length l.out ≡ length l.initial.out)
    × Listed l.initial.out l.at (each_below l.j (fill_entry l.state l.x l.i) (sofar l.initial.tables l.initial.out l.at)) l.tables l.out l.end
