-- `NodeTable::put_entry`: four empty slots have no records; each turn puts the next slot's. Assumes nothing.
use Rattle.std.proofs.Common.{arith}
use Rattle.model.specs.Image.{slot_record}
use Rattle.putting.proofs.Putting.{pieces_none, pieces_room, pieces_goes, pieces_ends}
use Rattle.image_writing_parts.specs.Records.{slot_of, entry_of}
use Rattle.image_writing_parts.proofs.SlotLaws.{entry_skipped}
use Rattle.image_writing_parts.proofs.table.NodeTable.put_entry.Goals as goal

pub returns-then-empty : goal.returns-then-empty
returns-then-empty c =
    let few = c.args.self.now.shape.depth in
    entry_skipped _ _ _ _ _ c.empty.result few c.empty.ensures c.if-empty.true _ _ c.requires.room

pub loop-k-init : goal.loop-k-init
loop-k-init c = pieces_none _ _ _ (omega arith)

pub slot-end-requires-clause-room : goal.slot-end-requires-clause-room
unfolding entry_of slot_of slot_record
slot-end-requires-clause-room c =
    let t = c.args.self.now in
    pieces_room (slot_record t.slots.now t.node c.args.i c.args.j) _ _ _ _ _ _ c.requires.room c.loop-k-test.true c.loop-k.invariant

pub loop-k-preserved : goal.loop-k-preserved
unfolding slot_of slot_record
loop-k-preserved c = pieces_goes _ _ _ _ _ _ _ _ c.loop-k.invariant c.slot-end.ensures

pub returns : goal.returns
unfolding entry_of
returns c = pieces_ends _ _ _ _ _ _ _ c.loop-k.invariant (omega arith) (omega arith)
