use Prim.Native.Nat.{◌+◌, ◌*◌, ◌≤◌}
use Rattle.model.specs.Loops.{join_below}
use Rattle.putting.specs.Put.{Put}
use Rattle.replay_survey.specs.SurveyText.{hop_text}
use Rattle.replay_survey.proofs.lines.hops.Given as goal

abbrev pub invariant-loop-k : goal.invariant-loop-k
invariant-loop-k l = record { put : Put l.initial.out l.at (join_below l.k (hop_text l.counts)) l.out l.end; few : l.end ≤ l.at + 103 * l.k }
