-- `pass`: the cursor behind one path more. Assumes nothing.
use Rattle.traces.proofs.Walks.{stands, passes}
use Rattle.traces.proofs.cursor.Cursor.pass.Goals as goal

pub returns-clause-walked : goal.returns-clause-walked
returns-clause-walked c =
    let p = c.requires in
    passes _ _ _ _ p.walked p.path_bound p.count_right _ p.places_read _ _ c.unnamed_to-unnamed.ensures c.forbidden_to.ensures

pub invariant_of-p : goal.invariant_of-p
invariant_of-p c =
    let p = c.requires in
    record { stands = stands _ _ _ _ p.walked p.path_bound p.count_right _ p.places_read }
