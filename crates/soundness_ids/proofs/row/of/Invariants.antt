use Rattle.soundness_ids.proofs.Words.{RowBelow}
use Rattle.soundness_ids.proofs.row.of.Given as goal

abbrev pub invariant-loop-k : goal.invariant-loop-k
invariant-loop-k l = RowBelow l.state.words.now l.ids l.k
