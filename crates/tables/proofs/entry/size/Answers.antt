-- `size`: the first empty slot below the depth, which is the depth where there is none. Assumes nothing.
use Rattle.std.proofs.Common.{rules, arith, ◌≡◌, true, false}
use Rattle.std.proofs.lemmas.Iterator.{first_from_Range}
use Rattle.model.specs.Tables.{slot_is, entry_size}
use Rattle.model.proofs.Loops.{first_le}
use Rattle.tables.proofs.Slots.{first_slot}
use Rattle.tables.proofs.entry.size.Goals as goal

pub returns : goal.returns
unfolding entry_size
returns c =
    let a = c.args in
    let empty = slot_is a.table.now a.i a.j 0 in
    let is = first_slot a.depth empty c.find.result c.unwrap_or.result
    (first_from_Range _ _ _ c.find.result (λ k. empty k ≡ true) (λ k. empty k ≡ false) c.find.ensures.ran (λ x q k. search rules) (λ x q k. search rules))
    c.unwrap_or.ensures in
    (is, omega (arith, is, first_le a.depth empty))
