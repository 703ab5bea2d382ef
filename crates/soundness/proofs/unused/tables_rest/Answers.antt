-- `tables_rest`: the loop's invariant is that the tables from the first one up to `k` are zero. Assumes nothing.
use Rattle.std.proofs.Common.{arith}
use Rattle.soundness.proofs.Past.{past_none, past_goes, past_leaves, past_ends}
use Rattle.soundness.proofs.unused.tables_rest.Goals as goal

pub loop-k-init : goal.loop-k-init
loop-k-init c = past_none _ _ _ (omega (arith, c.args.state.now.settings_of))

pub returns-then-not-all_zero : goal.returns-then-not-all_zero
returns-then-not-all_zero c =
    past_leaves _ _ c.loop-k.k c.requires (omega (arith, c.args.state.now.settings_of)) (omega arith) _ c.all_zero.ensures c.if-not-all_zero.true

pub loop-k-preserved : goal.loop-k-preserved
loop-k-preserved c =
    let state = c.args.state.now in
    past_goes state.words.now c.args.tables.now c.loop-k.k c.requires (omega (arith, state.settings_of)) (omega arith) _
    c.all_zero.ensures c.loop-k.invariant c.if-not-all_zero.false

pub returns : goal.returns
returns c = past_ends _ _ _ c.requires (omega (arith, c.args.state.now.identified.ranged, c.args.state.now.settings_of)) (omega arith) c.loop-k.invariant
