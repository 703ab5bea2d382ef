-- `put`: each turn puts the next line behind the others. Assumes nothing.
use Rattle.std.proofs.Common.{arith}
use Rattle.replay_panel.proofs.Pieces.{panel_none, panel_goes, panel_ends}
use Rattle.replay_panel.proofs.put.Goals as goal

pub loop-k-init : goal.loop-k-init
loop-k-init c = (panel_none _ _, omega arith)

pub loop-k-preserved : goal.loop-k-preserved
loop-k-preserved c = (search panel_goes, omega arith)

pub returns : goal.returns
returns c =
    record { put = search panel_ends; upper_bound = omega arith }
