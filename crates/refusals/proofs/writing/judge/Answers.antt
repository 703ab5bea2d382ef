-- `judge`: each return is a sentence of the chain. Assumes nothing.
use Rattle.std.proofs.Common.{ap, not, sym, ◌∙◌}
use native.Mathlib.Omega.{arith}
use borrow.Author.Tests.{lt-ltb, le-ltb}
use Rattle.model.specs.Refusals.{write_refusal}
use Rattle.refusals.proofs.State.{state_refused, no_such_version, cannot_hold, image_too_long, may_write}
use Rattle.refusals.proofs.writing.judge.Goals as goal

pub returns-in_err-network-clause-refusal : goal.returns-in_err-network-clause-refusal
unfolding write_refusal
returns-in_err-network-clause-refusal c = state_refused _ _ c.from_residual.ensures _ _ c.in_err-network.ensures.refusal

pub returns-then-not-is_version-clause-refusal : goal.returns-then-not-is_version-clause-refusal
returns-then-not-is_version-clause-refusal c =
    let n = c.in_ok-network.ensures in
    no_such_version _ n.refusal _ _ n.ok _ _ (cc (c.is_version.ensures, c.if-not-is_version.true))

pub returns-then-not-can_hold-clause-refusal : goal.returns-then-not-can_hold-clause-refusal
returns-then-not-can_hold-clause-refusal c =
    let n = c.in_ok-network.ensures in
    cannot_hold _ n.refusal _ _ n.ok _ _ (cc (c.is_version.ensures, c.if-not-is_version.false)) (sym c.can_hold.ensures ∙ ap not c.if-not-can_hold.true)

pub returns-then-out-image_length-clause-refusal : goal.returns-then-out-image_length-clause-refusal
returns-then-out-image_length-clause-refusal c =
    let n = c.in_ok-network.ensures in
    image_too_long _ n.refusal _ _ n.ok _ _ (cc (c.is_version.ensures, c.if-not-is_version.false)) (sym c.can_hold.ensures ∙ ap not c.if-not-can_hold.false)
    (lt-ltb _ _ (omega (arith, c.image_length.ensures, c.if-out-image_length.true)))

pub returns-clause-refusal : goal.returns-clause-refusal
returns-clause-refusal c =
    let n = c.in_ok-network.ensures in
    may_write _ n.refusal _ _ n.ok _ _ (cc (c.is_version.ensures, c.if-not-is_version.false)) (sym c.can_hold.ensures ∙ ap not c.if-not-can_hold.false)
    (le-ltb _ _ (omega (arith, c.image_length.ensures, c.if-out-image_length.false)))
