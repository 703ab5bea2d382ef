-- `judge`: each return is a sentence of the chain. Assumes nothing.
use Rattle.model.specs.Refusals.{fill_refusal}
use Rattle.refusals.proofs.State.{state_refused, joins_under_way, list_too_long, may_fill, steady}
use Rattle.refusals.proofs.fill.judge.Goals as goal

pub returns-in_err-network : goal.returns-in_err-network
unfolding fill_refusal
returns-in_err-network c = state_refused _ _ c.from_residual.ensures _ _ c.in_err-network.ensures.refusal

pub returns-then-not-all_in_system : goal.returns-then-not-all_in_system
returns-then-not-all_in_system c =
    let n = c.in_ok-network.ensures in
    joins_under_way _ n.refusal _ _ n.ok _ (cc (c.all_in_system.ensures, c.if-not-all_in_system.true))

pub exceeds-requires : goal.exceeds-requires
exceeds-requires c = record { steady = steady _ _ c.in_ok-network.network.sound (cc (c.all_in_system.ensures, c.if-not-all_in_system.false)) }

pub returns-then-exceeds : goal.returns-then-exceeds
returns-then-exceeds c =
    let n = c.in_ok-network.ensures in
    list_too_long _ n.refusal _ _ n.ok _ (cc (c.all_in_system.ensures, c.if-not-all_in_system.false)) (cc (c.exceeds.ensures, c.if-exceeds.true))

pub returns : goal.returns
returns c =
    let n = c.in_ok-network.ensures in
    may_fill _ n.refusal _ _ n.ok _ (cc (c.all_in_system.ensures, c.if-not-all_in_system.false)) (cc (c.exceeds.ensures, c.if-exceeds.false))
