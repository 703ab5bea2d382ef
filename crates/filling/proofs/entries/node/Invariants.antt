use mathlib.Core.Path.{◌≡◌}
use lib.ListN.{length}
use Rattle.model.specs.Loops.{each_below}
use Rattle.model.specs.Fill.{fill_level}
use Rattle.consistency.specs.NodeSets.{Sharing}
use Rattle.filling.specs.Sofar.{sofar, Listed}
use Rattle.filling.proofs.entries.node.Given as goal

abbrev pub invariant-loop-i : goal.invariant-loop-i
invariant-loop-i l = (length l.tables ≡ length l.initial.tables)
    × (length l.out ≡ length l.initial.out)
    × Sharing l.state l.x l.i l.sharing
    × Listed l.initial.out l.at (each_below l.i (fill_level l.state l.x) (sofar l.initial.tables l.initial.out l.at)) l.tables l.out l.end
