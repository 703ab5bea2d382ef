-- `unnamed_to`: the first place without a node is kept, or looked for in the path. Assumes nothing.
use Rattle.std.proofs.Common.{ap, ◌∙◌, Some}
use Rattle.traces.proofs.Walks.{keeps, finds_none, finds}
use Rattle.traces.proofs.cursor.Cursor.unnamed_to.Goals as goal

pub returns-in-Some : goal.returns-in-Some
returns-in-Some c = keeps _ _ _ _ c.requires _ c.in-Some.is

pub returns-in_err-k : goal.returns-in_err-k
returns-in_err-k c =
    c.from_residual.ensures
    ∙ finds_none _ _ _ _ c.requires c.in_default.is _ c.args.p.now.stands.places c.in_err-k.ensures.none

pub returns : goal.returns
returns c =
    ap Some c.fault.ensures
    ∙ finds _ _ _ _ c.requires c.in_default.is _ c.args.p.now.stands.places _ c.in_ok-k.ensures.some
