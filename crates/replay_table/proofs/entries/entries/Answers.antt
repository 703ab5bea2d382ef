-- `entries`: each turn puts the next level behind the others. Assumes nothing.
use native.Mathlib.Omega.{arith}
use Rattle.putting.proofs.Putting.{pieces_none, pieces_goes, pieces_ends}
use Rattle.replay_table.specs.TableText.{entries_text}
use Rattle.replay_table.proofs.entries.entries.Goals as goal

pub loop-i-init : goal.loop-i-init
loop-i-init c = (pieces_none _ _ _ (omega arith), omega arith)

pub loop-i-preserved : goal.loop-i-preserved
loop-i-preserved c = (search pieces_goes, omega arith)

pub returns : goal.returns
unfolding entries_text
returns c =
    record { put = search pieces_ends; upper_bound = omega arith }
