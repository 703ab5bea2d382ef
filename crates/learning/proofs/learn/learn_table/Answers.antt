-- `learn_table`: each turn is the definition's step at its place. Assumes nothing.
use Rattle.std.proofs.Common.{◌∙◌}
use Rattle.model.proofs.Loops.{each_zero}
use Rattle.learning.proofs.Places.{learns_place, step_empty, step_own, step_learns, learned_all}
use Rattle.learning.proofs.learn.learn_table.Goals as goal
use Rattle.learning.proofs.learn.learn_table.Goals.{then-u-ne0+then-u-learner, else-u-ne0, else-u-ne0-via-then-u-ne0+else-u-learner, else-u-ne0-via-else-u-ne0}

pub loop-u-init : goal.loop-u-init
loop-u-init c = search each_zero

pub learn-requires : goal.learn-requires
learn-requires c = search learns_place

pub loop-u-preserved : goal.loop-u-preserved
loop-u-preserved c =
    elim c.if-u-ne0.branch [
      | then-u-ne0+then-u-learner w ↦ w.own-is ∙ search step_learns
      | else-u-ne0 w ↦
          elim w.else-u-ne0.branch [
            | else-u-ne0-via-then-u-ne0+else-u-learner w' ↦ w.own-is ∙ search step_own
            | else-u-ne0-via-else-u-ne0 w' ↦ w.own-is ∙ search step_empty
          ]
    ]

pub returns : goal.returns
returns c = search learned_all
