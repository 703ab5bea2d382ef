-- `may_go`: no path goes on past its destination, and else the entry at the common suffix holds the
-- node or not. Assumes nothing.
use Rattle.std.proofs.Common.{arith}
use Rattle.model.proofs.MayGo.{may_not_leave}
use Rattle.routing.proofs.Hops.{reads_may_go, entry_stands}
use Rattle.routing.proofs.may_go.Goals as goal

pub returns-then-u-z : goal.returns-then-u-z
returns-then-u-z c = search may_not_leave

pub holds-requires : goal.holds-requires
holds-requires c =
    let p = c.requires in
    entry_stands _ _ c.args.network.now.sound _ _ p.from p.to c.if-u-z.false _ _ _ c.hop_entry-e.ensures c.table.ensures.1
    (omega (arith, c.settings-depth.ensures.depth, c.args.network.now.sound.settings.depth_most))

pub returns : goal.returns
returns c = search reads_may_go
