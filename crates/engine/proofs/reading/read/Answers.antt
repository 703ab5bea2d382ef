-- `read`: refused, or the state that the image gives. Assumes nothing.
use mathlib.Core.Path.{refl, ap, ◌∙◌}
use native.Mathlib.Omega.{arith}
use Rattle.state.specs.Lent.{memory}
use Rattle.answers.proofs.Errors.{numbered_from_one}
use Rattle.engine.specs.Outcomes.{leaves}
use Rattle.engine.proofs.ReadLaws.{place_handed, refusal_handed, read_refused, read_done, reads}
use Rattle.engine.proofs.reading.read.Goals as goal

pub returns-in_err-judge : goal.returns-in_err-judge
returns-in_err-judge c =
    ap (leaves (memory c.args.state.now c.args.tables.now)) (place_handed _ _ c.from_residual.ensures)
    ∙ read_refused _ _ _ _ c.in_err-judge.ensures (numbered_from_one _)

pub read-requires : goal.read-requires
read-requires c = reads _ _ _ _ c.in_ok-judge.ensures refl (λ a. omega (arith, c.type_inv.image a))

pub returns-in_err-read : goal.returns-in_err-read
returns-in_err-read c =
    let h = c.in_err-read.ensures in
    ap (leaves (memory c.read.new.state c.read.new.tables)) (refusal_handed _ _ c.from_residual-in_err-read.ensures)
    ∙ read_done _ _ _ _ c.in_ok-judge.ensures refl _ _ (h.memory, h.refusal)

pub returns : goal.returns
returns c = let h = c.in_ok-read.ensures in read_done _ _ _ _ c.in_ok-judge.ensures refl _ _ (h.memory, h.refusal)
