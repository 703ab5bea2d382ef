-- `is_listed`: its tests are those of `join_listed`, in its order. Assumes nothing.
use Rattle.std.proofs.Common.{ap, not, eq-eqb}
use Rattle.image_joins.proofs.Judged.{no_node_leaves, in_system_leaves, later_listed}
use Rattle.image_joins.proofs.joins.is_listed.Goals as goal

pub returns-then-not-is_node : goal.returns-then-not-is_node
returns-then-not-is_node c =
    no_node_leaves _ _ c.args.sections.now.image.headed _ _ c.read-j.ensures _ c.is_node.ensures (ap not c.if-not-is_node.true)

pub returns-then-j-ne-IN_SYSTEM : goal.returns-then-j-ne-IN_SYSTEM
returns-then-j-ne-IN_SYSTEM c =
    later_listed _ _ c.args.sections.now.image.headed _ _ c.read-j.ensures _ c.is_node.ensures (ap not c.if-not-is_node.false)
    c.if-j-ne-IN_SYSTEM.true _ c.rises.ensures

pub returns-else-j-ne-IN_SYSTEM : goal.returns-else-j-ne-IN_SYSTEM
returns-else-j-ne-IN_SYSTEM c =
    in_system_leaves _ _ c.args.sections.now.image.headed _ _ c.read-j.ensures _ c.is_node.ensures (ap not c.if-not-is_node.false)
    c.if-j-ne-IN_SYSTEM.false _ (ap not (eq-eqb _ _ c.if-j-ne-IN_SYSTEM.false))
