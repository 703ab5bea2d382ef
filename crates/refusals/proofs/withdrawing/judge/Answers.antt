-- `judge`: each return is a sentence of the chain. Assumes nothing.
use Rattle.std.proofs.Common.{rules}
use borrow.Author.Tests.{eq-eqb, ne_eqb}
use Rattle.model.specs.Refusals.{withdraw_refusal}
use Rattle.refusals.proofs.State.{state_refused, no_node, not_there, not_highest, attached_already, may_withdraw}
use Rattle.refusals.proofs.withdrawing.judge.Goals as goal

pub returns-in_err-network : goal.returns-in_err-network
unfolding withdraw_refusal
returns-in_err-network c = state_refused _ _ c.from_residual.ensures _ _ c.in_err-network.ensures.refusal

pub returns-in_err-x : goal.returns-in_err-x
returns-in_err-x c = search (rules, no_node, not_there)

pub returns-then-x-nodes : goal.returns-then-x-nodes
returns-then-x-nodes c =
    let x = c.in_ok-x.ensures.ok in
    not_highest _ c.in_ok-network.ensures.refusal _ c.in_ok-network.ensures.ok.0 _ x.1 (ne_eqb _ _ (λ e. c.if-x-nodes.true (cc (c.nodes.ensures, x.0, e))))

pub returns-then-attached : goal.returns-then-attached
returns-then-attached c =
    let x = c.in_ok-x.ensures.ok in
    attached_already _ c.in_ok-network.ensures.refusal _ c.in_ok-network.ensures.ok.0 _ x.1 (eq-eqb _ _ (cc (c.nodes.ensures, x.0, c.if-x-nodes.false)))
    (cc (c.attached.ensures, c.if-attached.true, c.status.ensures, x.0))

pub returns : goal.returns
returns c =
    let x = c.in_ok-x.ensures.ok in
    may_withdraw _ c.in_ok-network.ensures.refusal _ c.in_ok-network.ensures.ok.0 _ x.1 (eq-eqb _ _ (cc (c.nodes.ensures, x.0, c.if-x-nodes.false)))
    (cc (c.attached.ensures, c.if-attached.false, c.status.ensures, x.0))
