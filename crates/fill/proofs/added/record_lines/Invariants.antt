use Rattle.std.proofs.Common.{◌≡◌, ◌+◌, ◌*◌, ◌≤◌, length}
use Rattle.model.specs.Loops.{join_below}
use Rattle.putting.specs.Put.{Put}
use Rattle.fill.specs.Lines.{record_at}
use Rattle.fill.proofs.added.record_lines.Given as goal

abbrev pub invariant-loop-k : goal.invariant-loop-k
invariant-loop-k l =
    record {
      length_same : length l.out ≡ length l.initial.out;
      put : Put l.initial.out l.at (join_below l.k (record_at l.list)) l.out l.end;
      end_bound : l.end ≤ l.at + 91 * l.k;
    }
