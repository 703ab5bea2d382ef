-- `judge`: each return is a sentence of the chain. Assumes nothing.
use Rattle.std.proofs.Common.{rules}
use Rattle.model.specs.Refusals.{lookup_refusal}
use Rattle.refusals.proofs.State.{state_refused, no_node, no_start, no_destination, an_end_failed, may_look}
use Rattle.refusals.proofs.lookup.judge.Goals as goal

pub returns-in_err-network-clause-refusal : goal.returns-in_err-network-clause-refusal
unfolding lookup_refusal
returns-in_err-network-clause-refusal c = state_refused _ _ c.from_residual.ensures _ _ c.in_err-network.ensures.refusal

pub returns-in_err-u-clause-refusal : goal.returns-in_err-u-clause-refusal
returns-in_err-u-clause-refusal c =
    let e = c.in_err-u.ensures.none in
    no_node _ _ c.from_residual-in_err-u.ensures _ e.0 (no_start _ c.in_ok-network.ensures.refusal _ c.in_ok-network.ensures.ok.0 _ _ _ e.1)

pub returns-in_err-z-clause-refusal : goal.returns-in_err-z-clause-refusal
returns-in_err-z-clause-refusal c =
    let e = c.in_err-z.ensures.none in
    no_node _ _ c.from_residual-in_err-z.ensures _ e.0 (no_destination _ c.in_ok-network.ensures.refusal _ c.in_ok-network.ensures.ok.0 _ _ _ e.1)

pub returns-then-has_either-clause-refusal : goal.returns-then-has_either-clause-refusal
returns-then-has_either-clause-refusal c =
    let u = c.in_ok-u.ensures.ok in
    let z = c.in_ok-z.ensures.ok in
    an_end_failed _ c.in_ok-network.ensures.refusal _ c.in_ok-network.ensures.ok.0 _ _ _ u.1 z.1 (cc (c.has_either.ensures, u.0, z.0, c.if-has_either.true))

pub returns-clause-refusal : goal.returns-clause-refusal
returns-clause-refusal c = search (rules, may_look)
