use mathlib.Core.Path.{◌≡◌}
use lib.ListN.{length}
use Rattle.model.specs.Loops.{each_below}
use Rattle.model.specs.Fill.{short_by, fill_once}
use Rattle.filling.specs.Sofar.{sofar, Listed}
use Rattle.filling.proofs.entries.fill.Given as goal

abbrev pub invariant-loop : goal.invariant-loop
invariant-loop l = (length l.tables ≡ length l.initial.tables)
    × (length l.out ≡ length l.initial.out)
    × (l.many ≡ short_by l.entry.state.now l.initial.tables l.entry.node l.entry.level l.entry.digit)
    × Listed l.initial.out l.at (each_below l.counter (fill_once l.entry.state.now l.entry.node l.entry.level l.entry.digit) (sofar l.initial.tables l.initial.out l.at)) l.tables l.out l.end
