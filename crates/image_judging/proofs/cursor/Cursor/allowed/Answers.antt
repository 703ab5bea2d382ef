-- `allowed`: each test is a rule of the record, by what the cursor holds. Assumes nothing.
use Rattle.image_judging.proofs.Rules.{owner_held, neighbor_held, neighbor_numbered, not_qualified, room_left}
use Rattle.image_judging.proofs.cursor.Cursor.allowed.Goals as goal

pub id-requires : goal.id-requires
id-requires c = owner_held _ _ _ c.args.named.now.named c.requires.next_bound c.requires.record_of

pub id-requires-2 : goal.id-requires-2
id-requires-2 c = neighbor_held _ _ _ c.args.named.now.named c.requires.next_bound c.requires.record_of

pub takes-requires : goal.takes-requires
takes-requires c =
    neighbor_numbered _ _ _ c.args.named.now.image.headed.counted c.args.named.now.named c.requires.next_bound c.requires.record_of

pub returns-then-qualified : goal.returns-then-qualified
returns-then-qualified c =
    let r = c.requires in
    room_left _ _ _ _ c.args.named.now.image.headed c.args.named.now.named r.enters r.next_bound r.record_of
    _ _ c.id.ensures c.id-2.ensures _ c.qualified.ensures c.if-qualified.true _ c.takes.ensures

pub returns-else-qualified : goal.returns-else-qualified
returns-else-qualified c =
    let r = c.requires in
    not_qualified _ _ _ _ c.args.named.now.image.headed c.args.named.now.named r.enters r.next_bound r.record_of
    _ _ c.id.ensures c.id-2.ensures _ c.qualified.ensures c.if-qualified.false
