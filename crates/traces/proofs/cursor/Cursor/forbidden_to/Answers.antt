-- `forbidden_to`: the first step that is not allowed is kept, or looked for in the path, whose places
-- have nodes then. Assumes nothing.
use Rattle.std.proofs.Common.{ℕ, ◌-◌, ap, ◌∙◌, Some}
use Rattle.traces.proofs.Faults.{none_some}
use Rattle.traces.proofs.Walks.{keeps, finds_none, finds, path_named_lem, forbidden_before}
use Rattle.traces.proofs.cursor.Cursor.forbidden_to.Goals as goal

pub returns-in-Some : goal.returns-in-Some
returns-in-Some c none = absurd (none_some c.in-Some.is none)

pub returns-in-Some-forbidden : goal.returns-in-Some-forbidden
returns-in-Some-forbidden c none =
    keeps _ _ _ _ (forbidden_before _ _ _ _ c.requires.walked _ c.requires.number _ c.requires.unnamed_to none) _ c.in-Some-forbidden.is

pub first_forbidden-requires : goal.first_forbidden-requires
first_forbidden-requires c =
    path_named_lem _ _ _ _ _ c.args.p.now.stands _ c.requires.unnamed_to c.in_default.is

pub returns-in_err-k : goal.returns-in_err-k
returns-in_err-k c none =
    c.from_residual.ensures
    ∙ finds_none _ _ _ _ (forbidden_before _ _ _ _ c.requires.walked _ c.requires.number _ c.requires.unnamed_to none) c.in_default-forbidden.is
    _ (ap (λ (n : ℕ). n - 1) c.args.p.now.stands.places) c.in_err-k.ensures.none

pub returns : goal.returns
returns c none =
    ap Some c.fault.ensures
    ∙ finds _ _ _ _ (forbidden_before _ _ _ _ c.requires.walked _ c.requires.number _ c.requires.unnamed_to none) c.in_default-forbidden.is
    _ (ap (λ (n : ℕ). n - 1) c.args.p.now.stands.places) _ c.in_ok-k.ensures.some
