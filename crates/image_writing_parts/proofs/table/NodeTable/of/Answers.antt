-- `NodeTable::of`: by the settings and the table that the code has read. Assumes nothing.
use Rattle.image_writing_parts.proofs.SlotLaws.{node_is}
use Rattle.image_writing_parts.proofs.table.NodeTable.of.Goals as goal

pub returns : goal.returns
returns c =
    let s = c.settings-s.ensures in
    node_is _ _ _ _ _ s.digits s.base s.depth _ _ c.table.ensures.0
