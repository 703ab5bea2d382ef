-- `level`: each turn puts the next entry behind the others. Assumes nothing.
use native.Mathlib.Omega.{arith}
use Rattle.putting.proofs.Putting.{pieces_none, pieces_goes, pieces_ends}
use Rattle.replay_table.specs.TableText.{level_text}
use Rattle.replay_table.proofs.entries.level.Goals as goal

pub loop-j-init : goal.loop-j-init
loop-j-init c = (pieces_none _ _ _ (omega arith), omega arith)

pub loop-j-preserved : goal.loop-j-preserved
loop-j-preserved c = (search pieces_goes, omega arith)

pub returns : goal.returns
unfolding level_text
returns c =
    record { put = search pieces_ends; upper_bound = omega arith }
