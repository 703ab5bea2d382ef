-- `frontmost`: the slots before `k` hold failed nodes. Assumes nothing.
use Rattle.tables.proofs.Fronts.{passed_more, front_found, front_empty, front_past, first_front}
use Rattle.tables.proofs.entry.frontmost.Goals as goal

pub returns-then-is_empty-clause-hop : goal.returns-then-is_empty-clause-hop
returns-then-is_empty-clause-hop c = search first_front

pub returns-then-node-eq0-clause-hop : goal.returns-then-node-eq0-clause-hop
returns-then-node-eq0-clause-hop c = search front_empty

pub returns-then-not-has-clause-hop : goal.returns-then-not-has-clause-hop
returns-then-not-has-clause-hop c = search front_found

pub loop-k-preserved : goal.loop-k-preserved
loop-k-preserved c = search passed_more

pub returns-clause-hop : goal.returns-clause-hop
returns-clause-hop c = search front_past
