use Rattle.std.proofs.Common.{◌≡◌}
use Rattle.model.specs.Loops.{each_below}
use Rattle.consistency.specs.NodeSets.{note_at}
use Rattle.consistency.proofs.having.note.Given as goal

abbrev pub invariant-loop-i : goal.invariant-loop-i
invariant-loop-i l = l.sets ≡ each_below l.i (note_at l.id l.y) l.initial.sets
