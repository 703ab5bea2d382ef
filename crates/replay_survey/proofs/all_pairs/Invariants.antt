use Prim.Native.Nat.{◌*◌, ◌≤◌}
use mathlib.Core.Path.{◌≡◌}
use Rattle.model.specs.Loops.{sum_below}
use Rattle.replay_survey.specs.SurveyText.{pairs_at}
use Rattle.replay_survey.proofs.all_pairs.Given as goal

abbrev pub invariant-loop-count : goal.invariant-loop-count
invariant-loop-count l = (l.pairs ≡ sum_below l.count-index (pairs_at l.fn.counts)) × (l.pairs ≤ 4096 * l.count-index)
