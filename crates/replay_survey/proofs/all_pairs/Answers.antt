-- `all_pairs`: each turn adds the next count. Assumes nothing.
use native.Mathlib.Omega.{arith}
use Rattle.model.specs.Loops.{sum_below}
use Rattle.model.proofs.Sums.{sum_step}
use Rattle.replay_survey.specs.SurveyText.{pairs_at}
use Rattle.replay_survey.proofs.Pairs.{pairs_ends}
use Rattle.replay_survey.proofs.all_pairs.Goals as goal

pub overflow_add-pairs : goal.overflow_add-pairs
overflow_add-pairs c = omega (arith, c.requires c.loop-count.count-index)

pub loop-count-init : goal.loop-count-init
unfolding sum_below
loop-count-init c = omega arith

pub loop-count-preserved : goal.loop-count-preserved
loop-count-preserved c =
    let k = c.loop-count.count-index in
    omega (arith, sum_step k (pairs_at c.args.counts), c.requires k)

pub returns : goal.returns
returns c = search pairs_ends
