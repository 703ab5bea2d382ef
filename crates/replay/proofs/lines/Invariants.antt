-- `lines`: each turn is one line more, so its number is at most the bytes before it.
use Rattle.std.proofs.Common.{length, ◌+◌, ◌≤◌}
use Rattle.state.specs.Lent.{memory}
use Rattle.replay.proofs.ScriptLines.{SoFar}
use Rattle.replay.proofs.lines.Given as goal

abbrev pub invariant-loop-rest : goal.invariant-loop-rest
invariant-loop-rest g l =
    (l.number + length l.rest ≤ length l.script) × SoFar l.script (memory l.initial.state l.initial.tables) l.rest (memory l.state l.tables)

abbrev pub decreases-loop-rest : goal.decreases-loop-rest
decreases-loop-rest g l = length l.rest
