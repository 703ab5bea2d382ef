-- `NodeTable::put_level`: each turn puts the next entry's records behind the others. Assumes nothing.
use Rattle.std.proofs.Common.{arith}
use Rattle.putting.proofs.Putting.{pieces_none, pieces_room, pieces_goes, pieces_ends}
use Rattle.image_writing_parts.specs.Records.{entry_of, records_of_level}
use Rattle.image_writing_parts.proofs.table.NodeTable.put_level.Goals as goal

pub loop-j-init : goal.loop-j-init
loop-j-init c = pieces_none _ _ _ (omega arith)

pub put_entry-end-requires-clause-room : goal.put_entry-end-requires-clause-room
unfolding records_of_level
put_entry-end-requires-clause-room c =
    let t = c.args.self.now in
    pieces_room (entry_of t.depth t.slots.now t.node c.args.i) _ _ _ _ _ _ c.requires.room c.loop-j-test.true c.loop-j.invariant

pub loop-j-preserved : goal.loop-j-preserved
loop-j-preserved c = pieces_goes _ _ _ _ _ _ _ _ c.loop-j.invariant c.put_entry-end.ensures

pub returns : goal.returns
unfolding records_of_level
returns c = pieces_ends _ _ _ _ _ _ _ c.loop-j.invariant (omega arith) (omega arith)
