-- `in_order`: its tests are those of `keeps_order`. Assumes nothing.
use Rattle.image_judging.proofs.Rules.{order_leaves, order_goes}
use Rattle.image_judging.proofs.cursor.Cursor.in_order.Goals as goal

pub returns-then-fits : goal.returns-then-fits
returns-then-fits c = search order_goes

pub returns-else-fits : goal.returns-else-fits
returns-else-fits c = search order_leaves
