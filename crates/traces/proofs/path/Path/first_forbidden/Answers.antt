-- `first_forbidden`: each step before `k` is allowed. Assumes nothing.
use Rattle.std.proofs.Common.{arith}
use Rattle.model.proofs.Loops.{first_goes, first_leaves, first_whole}
use Rattle.traces.proofs.Paths.{step_judged}
use Rattle.traces.proofs.path.Path.first_forbidden.Goals as goal

pub returns-then-not-may_go-clause-some : goal.returns-then-not-may_go-clause-some
returns-then-not-may_go-clause-some c = (omega arith, search (first_leaves, step_judged))

pub loop-k-preserved : goal.loop-k-preserved
loop-k-preserved c = search (first_goes, step_judged)

pub returns-clause-none : goal.returns-clause-none
returns-clause-none c = first_whole _ _ (omega arith)
