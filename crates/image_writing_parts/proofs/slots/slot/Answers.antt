-- `slots::slot`: nothing for an empty slot, else four bytes. Assumes nothing.
use Rattle.std.proofs.Common.{[], ◌∷◌}
use Rattle.image_writing_parts.specs.Records.{slot_of}
use Rattle.image_writing_parts.proofs.Unless.{unless_none, unless_room, unless_some}
use Rattle.image_writing_parts.proofs.slots.slot.Goals as goal

pub returns-then-u-eq0 : goal.returns-then-u-eq0
unfolding slot_of
returns-then-u-eq0 c = unless_none _ _ _ _ c.requires.room c.if-u-eq0.true

pub four-requires : goal.four-requires
unfolding slot_of
four-requires c =
    let a = c.args in
    unless_room _ (a.x ∷ a.i ∷ a.j ∷ a.u ∷ []) _ _ c.requires.room c.if-u-eq0.false

pub returns : goal.returns
unfolding slot_of
returns c = unless_some _ _ _ _ _ _ c.if-u-eq0.false c.four.ensures
