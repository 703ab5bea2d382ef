use mathlib.Core.Path.{◌≡◌}
use lib.ListN.{length}
use Rattle.model.specs.Loops.{each_below, node}
use Rattle.model.specs.Fill.{fill_node}
use Rattle.filling.specs.Sofar.{sofar, Listed}
use Rattle.filling.proofs.fill.Given as goal

abbrev pub invariant-loop-k : goal.invariant-loop-k
invariant-loop-k l = (length l.tables ≡ length l.initial.tables)
    × (length l.out ≡ length l.initial.out)
    × Listed l.initial.out 0 (each_below l.k (node (fill_node l.state)) (sofar l.initial.tables l.initial.out 0)) l.tables l.out l.end
