-- `lowest::lowest`: the lowest of those that qualify without those that the entry holds. Assumes nothing.
use Rattle.std.proofs.Common.{ℕ, subst}
use Rattle.std.specs.Prelude.{Option, IfSome}
use Rattle.filling.specs.NodeSets.{First}
use Rattle.filling.proofs.LowestAbsent.{found, some, lowest_is}
use Rattle.filling.proofs.lowest.lowest.Goals as goal

pub unwrap-requires : goal.unwrap-requires
unwrap-requires c =
    let p = c.args.entry.now in
    found c.first.result _
    (some _ _ _ _ _ p.qualify _ c.requires.steady _ _ c.load-depth.ensures.depth c.lent-table.ensures.0 p.place c.requires.short _ c.absent-missing.ensures)
    c.first.ensures.none

pub returns : goal.returns
returns c =
    let p = c.args.entry.now in
    let lowest : First c.absent-missing.result c.unwrap.result = subst (λ (o : Option ℕ). IfSome o (First c.absent-missing.result)) c.unwrap.ensures c.first.ensures.some in
    (lowest_is _ _ _ _ _ p.qualify _ c.requires.steady _ _ c.load-depth.ensures.depth c.lent-table.ensures.0 p.place c.requires.short _ c.absent-missing.ensures _ lowest, lowest.high)
