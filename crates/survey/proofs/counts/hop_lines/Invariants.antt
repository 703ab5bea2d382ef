use Rattle.std.proofs.Common.{◌≡◌, ◌+◌, ◌*◌, ◌≤◌, length}
use Rattle.model.specs.Loops.{join_below}
use Rattle.putting.specs.Put.{Put}
use Rattle.survey.specs.Lines.{hop_at}
use Rattle.survey.proofs.counts.hop_lines.Given as goal

abbrev pub invariant-loop-k : goal.invariant-loop-k
invariant-loop-k l =
    record {
      length_same : length l.out ≡ length l.initial.out;
      put : Put l.initial.out l.at (join_below l.k (hop_at l.counts)) l.out l.end;
      end_bound : l.end ≤ l.at + 47 * l.k;
    }
