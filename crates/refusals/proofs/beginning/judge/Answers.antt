-- `judge`: each return is a sentence of the chain. Assumes nothing.
use Rattle.std.proofs.Common.{◌∙◌}
use borrow.Author.Tests.{eq-eqb, ne_eqb}
use Rattle.model.specs.Refusals.{begin_refusal}
use Rattle.refusals.proofs.State.{valid_by, state_refused, no_node, id_not_valid, id_not_new, no_gateway, no_room, gateway_unsettled, may_begin}
use Rattle.refusals.proofs.beginning.judge.Goals as goal

pub returns-in_err-network-clause-refusal : goal.returns-in_err-network-clause-refusal
unfolding begin_refusal
returns-in_err-network-clause-refusal c = state_refused _ _ c.from_residual.ensures _ _ c.in_err-network.ensures.refusal

pub returns-then-not-valid_id-clause-refusal : goal.returns-then-not-valid_id-clause-refusal
returns-then-not-valid_id-clause-refusal c =
    let n = c.in_ok-network.ensures in
    id_not_valid _ n.refusal _ n.ok.0 _ _ (valid_by _ _ _ _ _ c.valid_id.ensures c.settings-s.ensures c.if-not-valid_id.true)

pub returns-then-id_taken-clause-refusal : goal.returns-then-id_taken-clause-refusal
returns-then-id_taken-clause-refusal c =
    let n = c.in_ok-network.ensures in
    let v = valid_by _ _ _ _ _ c.valid_id.ensures c.settings-s.ensures c.if-not-valid_id.false in
    id_not_new _ n.refusal _ n.ok.0 _ _ v (cc (c.id_taken.ensures, c.if-id_taken.true))

pub returns-in_err-g-clause-refusal : goal.returns-in_err-g-clause-refusal
returns-in_err-g-clause-refusal c =
    let n = c.in_ok-network.ensures in
    let v = valid_by _ _ _ _ _ c.valid_id.ensures c.settings-s.ensures c.if-not-valid_id.false in
    let e = c.in_err-g.ensures.none in
    no_node _ _ c.from_residual-in_err-g.ensures _ e.0 (no_gateway _ n.refusal _ n.ok.0 _ _ v (cc (c.id_taken.ensures, c.if-id_taken.false)) e.1)

pub returns-then-s-eq64-clause-refusal : goal.returns-then-s-eq64-clause-refusal
returns-then-s-eq64-clause-refusal c =
    let n = c.in_ok-network.ensures in
    let v = valid_by _ _ _ _ _ c.valid_id.ensures c.settings-s.ensures c.if-not-valid_id.false in
    no_room _ n.refusal _ n.ok.0 _ _ v (cc (c.id_taken.ensures, c.if-id_taken.false)) c.in_ok-g.ensures.ok.1 (eq-eqb _ _ (cc (c.settings-s.ensures.nodes, c.if-s-eq64.true)))

pub returns-then-status-ne-IN_SYSTEM-clause-refusal : goal.returns-then-status-ne-IN_SYSTEM-clause-refusal
returns-then-status-ne-IN_SYSTEM-clause-refusal c =
    let n = c.in_ok-network.ensures in
    let g = c.in_ok-g.ensures.ok in
    let v = valid_by _ _ _ _ _ c.valid_id.ensures c.settings-s.ensures c.if-not-valid_id.false in
    gateway_unsettled _ n.refusal _ n.ok.0 _ _ v (cc (c.id_taken.ensures, c.if-id_taken.false)) g.1 (ne_eqb _ _ (λ e. c.if-s-eq64.false (c.settings-s.ensures.nodes ∙ e)))
    (ne_eqb _ _ (λ e. c.if-status-ne-IN_SYSTEM.true (cc (c.status.ensures, g.0, e))))

pub returns-clause-refusal : goal.returns-clause-refusal
returns-clause-refusal c =
    let n = c.in_ok-network.ensures in
    let g = c.in_ok-g.ensures.ok in
    let v = valid_by _ _ _ _ _ c.valid_id.ensures c.settings-s.ensures c.if-not-valid_id.false in
    may_begin _ n.refusal _ n.ok.0 _ _ v (cc (c.id_taken.ensures, c.if-id_taken.false)) g.1 (ne_eqb _ _ (λ e. c.if-s-eq64.false (c.settings-s.ensures.nodes ∙ e)))
    (eq-eqb _ _ (cc (c.status.ensures, g.0, c.if-status-ne-IN_SYSTEM.false)))
