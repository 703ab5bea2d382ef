-- `clear`: each turn clears one place more. Assumes nothing.
use Rattle.std.proofs.Common.{◌∙◌, ap₂, arith, set}
use Rattle.state.proofs.Filled.{fill_more}
use Rattle.state.proofs.clear.clear.Goals as goal

pub loop-k-preserved : goal.loop-k-preserved
loop-k-preserved g c =
    let l = c.loop-k in
    ap₂ (λ m v. set m l.k v) l.invariant c.zero.ensures.value ∙ fill_more l.k g.T.Place.zero c.args.memory.now (omega arith)
