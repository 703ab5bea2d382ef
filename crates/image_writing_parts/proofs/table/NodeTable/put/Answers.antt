-- `NodeTable::put`: each turn puts the next level's records behind the others. Assumes nothing.
use Rattle.std.proofs.Common.{arith}
use Rattle.putting.proofs.Putting.{pieces_none, pieces_room, pieces_goes, pieces_ends}
use Rattle.image_writing_parts.specs.Records.{records_of_level, table_records}
use Rattle.image_writing_parts.proofs.table.NodeTable.put.Goals as goal

pub loop-i-init : goal.loop-i-init
loop-i-init c = pieces_none _ _ _ (omega arith)

pub put_level-end-requires-clause-room : goal.put_level-end-requires-clause-room
unfolding table_records
put_level-end-requires-clause-room c =
    let t = c.args.self.now in
    pieces_room (records_of_level t.base t.depth t.slots.now t.node) _ _ _ _ _ _ c.requires c.loop-i-test.true c.loop-i.invariant

pub loop-i-preserved : goal.loop-i-preserved
loop-i-preserved c = pieces_goes _ _ _ _ _ _ _ _ c.loop-i.invariant c.put_level-end.ensures

pub returns : goal.returns
unfolding table_records
returns c = pieces_ends _ _ _ _ _ _ _ c.loop-i.invariant (omega arith) (omega arith)
