use Rattle.std.proofs.Common.{arith, refl}
use Rattle.putting.proofs.Putting.{pieces_none, pieces_goes}
use Rattle.survey.proofs.counts.hop_lines.Goals as goal

pub loop-k-init : goal.loop-k-init
loop-k-init c = record { length_same = refl; put = pieces_none _ _ _ (omega arith); end_bound = omega arith }

pub loop-k-preserved : goal.loop-k-preserved
loop-k-preserved c = record { length_same = omega arith; put = search pieces_goes; end_bound = omega arith }
