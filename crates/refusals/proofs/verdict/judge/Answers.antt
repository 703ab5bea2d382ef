-- `judge`: each return is a sentence of the chain. Assumes nothing.
use Rattle.model.specs.Refusals.{verdict_refusal}
use Rattle.refusals.proofs.State.{state_refused, not_settled, may_judge}
use Rattle.refusals.proofs.verdict.judge.Goals as goal

pub returns-in_err-network-clause-refusal : goal.returns-in_err-network-clause-refusal
unfolding verdict_refusal
returns-in_err-network-clause-refusal c = state_refused _ _ c.from_residual.ensures _ _ c.in_err-network.ensures.refusal

pub returns-then-not-all_in_system-clause-refusal : goal.returns-then-not-all_in_system-clause-refusal
returns-then-not-all_in_system-clause-refusal c =
    let n = c.in_ok-network.ensures in
    not_settled _ n.refusal _ _ n.ok (cc (c.all_in_system.ensures, c.if-not-all_in_system.true))

pub returns-clause-refusal : goal.returns-clause-refusal
returns-clause-refusal c =
    let n = c.in_ok-network.ensures in
    may_judge _ n.refusal _ _ n.ok (cc (c.all_in_system.ensures, c.if-not-all_in_system.false))
