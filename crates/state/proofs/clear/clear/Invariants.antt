use Rattle.std.proofs.Common.{◌≡◌, ◌++◌, replicate}
use Rattle.std.specs.Prelude.{drop}
use Rattle.state.proofs.clear.clear.Given as goal

abbrev pub invariant-loop-k : goal.invariant-loop-k
invariant-loop-k g l = l.memory ≡ replicate l.k g.T.Place.zero ++ drop l.k l.initial.memory
