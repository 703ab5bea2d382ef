-- `judge`: 1 or 2, or what the trace itself decides. Assumes nothing.
use Rattle.refusals.proofs.TraceLaws.{state_is, trace_is}
use Rattle.refusals.proofs.tracing.judge.Goals as goal

pub returns-in_err-network : goal.returns-in_err-network
returns-in_err-network c = state_is _ _ _ _ _ c.from_residual.ensures c.in_err-network.ensures.refusal

pub returns : goal.returns
returns c =
    let n = c.in_ok-network.ensures in
    trace_is _ _ _ n.refusal _ _ n.ok _ c.judge.ensures
