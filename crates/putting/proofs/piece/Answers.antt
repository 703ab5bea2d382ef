-- `piece`: the piece, copied over the part of the output that it is as long as. Assumes nothing.
use Rattle.putting.proofs.Putting.{copied_is}
use borrow.Author.Rules.{rules}
use Rattle.putting.proofs.piece.Goals as goal

pub returns : goal.returns
returns c =
    let start = c.args in
    copied_is start.out.now start.at start.piece.now c.copy_from_slice.new.self (search rules) c.copy_from_slice.ensures.after
