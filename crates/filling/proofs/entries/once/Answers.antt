-- `entries::once`: the lowest absent node is appended, and its record put behind the list. Assumes nothing.
use Rattle.std.proofs.Common.{arith}
use Rattle.filling.proofs.Listing.{once_room, once_appends, once_listed}
use Rattle.filling.proofs.entries.once.Goals as goal

pub append-requires : goal.append-requires
append-requires c =
    let p = c.args.entry.now in
    once_appends _ _ _ _ _ c.args.out.now c.args.at _ _ c.requires.steady p.place c.requires.short c.load.ensures.depth (omega arith)

pub four-requires : goal.four-requires
four-requires c = search once_room

pub returns : goal.returns
returns c = search once_listed
