-- `judge`: each return is a sentence of the chain. Assumes nothing.
use Rattle.model.specs.Refusals.{deliver_refusal}
use Rattle.refusals.proofs.State.{state_refused, no_node, no_sender, no_receiver, none_outstanding, is_held, may_deliver}
use Rattle.refusals.proofs.delivering.judge.Goals as goal

pub returns-in_err-network-clause-refusal : goal.returns-in_err-network-clause-refusal
unfolding deliver_refusal
returns-in_err-network-clause-refusal c = state_refused _ _ c.from_residual.ensures _ _ c.in_err-network.ensures.refusal

pub returns-in_err-x-clause-refusal : goal.returns-in_err-x-clause-refusal
returns-in_err-x-clause-refusal c =
    let n = c.in_ok-network.ensures in
    let e = c.in_err-x.ensures.none in
    no_node _ _ c.from_residual-in_err-x.ensures _ e.0 (no_sender _ n.refusal _ n.ok.0 _ _ e.1)

pub returns-in_err-y-clause-refusal : goal.returns-in_err-y-clause-refusal
returns-in_err-y-clause-refusal c =
    let n = c.in_ok-network.ensures in
    let e = c.in_err-y.ensures.none in
    no_node _ _ c.from_residual-in_err-y.ensures _ e.0 (no_receiver _ n.refusal _ n.ok.0 _ _ e.1)

pub returns-then-not-outstanding-clause-refusal : goal.returns-then-not-outstanding-clause-refusal
returns-then-not-outstanding-clause-refusal c =
    let n = c.in_ok-network.ensures in
    let x = c.in_ok-x.ensures.ok in
    let y = c.in_ok-y.ensures.ok in
    none_outstanding _ n.refusal _ n.ok.0 _ _ x.1 y.1 (cc (c.outstanding.ensures, x.0, y.0, c.if-not-outstanding.true))

pub returns-then-wait_held-clause-refusal : goal.returns-then-wait_held-clause-refusal
returns-then-wait_held-clause-refusal c =
    let n = c.in_ok-network.ensures in
    let x = c.in_ok-x.ensures.ok in
    let y = c.in_ok-y.ensures.ok in
    is_held _ n.refusal _ n.ok.0 _ _ x.1 y.1 (cc (c.outstanding.ensures, x.0, y.0, c.if-not-outstanding.false)) (cc (c.wait_held.ensures, x.0, y.0, c.if-wait_held.true))

pub returns-clause-refusal : goal.returns-clause-refusal
returns-clause-refusal c =
    let n = c.in_ok-network.ensures in
    let x = c.in_ok-x.ensures.ok in
    let y = c.in_ok-y.ensures.ok in
    may_deliver _ n.refusal _ n.ok.0 _ _ x.1 y.1 (cc (c.outstanding.ensures, x.0, y.0, c.if-not-outstanding.false)) (cc (c.wait_held.ensures, x.0, y.0, c.if-wait_held.false))
