-- `gather`: each turn is the definition's step at its place. Assumes nothing.
use Rattle.std.proofs.Common.{◌∙◌}
use Rattle.model.proofs.Loops.{each_zero}
use Rattle.learning.proofs.Places.{readable_place, numbered_place, step_adds, step_passes, gathered_all}
use Rattle.learning.proofs.gather.gather.Goals as goal
use Rattle.learning.proofs.gather.gather.Goals.{then-is_to_notify, else-is_to_notify}

pub loop-u-init : goal.loop-u-init
loop-u-init c = search each_zero

pub is_to_notify-requires : goal.is_to_notify-requires
is_to_notify-requires c = search readable_place

pub add-gathered-requires : goal.add-gathered-requires
add-gathered-requires c = search numbered_place

pub loop-u-preserved : goal.loop-u-preserved
loop-u-preserved c =
    elim c.if-is_to_notify.branch [ then-is_to_notify w ↦ w.gathered-is ∙ search step_adds | else-is_to_notify w ↦ w.gathered-is ∙ search step_passes ]

pub returns : goal.returns
returns c = search gathered_all
