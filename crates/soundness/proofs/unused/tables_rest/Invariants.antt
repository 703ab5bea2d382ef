use Rattle.model.specs.Memory.{node_count}
use Rattle.soundness.proofs.Past.{ZeroUpTo}
use Rattle.soundness.proofs.unused.tables_rest.Given as goal

abbrev pub invariant-loop-k : goal.invariant-loop-k
invariant-loop-k l = ZeroUpTo l.tables (node_count l.state.words.now) l.k
