-- `trace`: the refusal of the trace. Assumes nothing.
use Rattle.engine.proofs.Laws.{trace_done}
use Rattle.engine.proofs.tracing.trace.Goals as goal

pub returns : goal.returns
returns c = trace_done _ _ _ _ c.judge.ensures
