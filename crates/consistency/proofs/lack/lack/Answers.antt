-- `lack::lack`: one slot tells that nothing is lacking, or how much it is. Assumes nothing.
use native.Mathlib.Omega.{arith}
use Rattle.consistency.proofs.Lacking.{lack_none, most_some, lack_full, lack_whole, lack_within}
use Rattle.consistency.proofs.lack.lack.Goals as goal

pub returns-then-is_empty : goal.returns-then-is_empty
returns-then-is_empty c = (search lack_none, omega arith)

pub returns-then-table-start-ne0 : goal.returns-then-table-start-ne0
returns-then-table-start-ne0 c = (search lack_full, omega arith)

pub overflow_sub-most : goal.overflow_sub-most
overflow_sub-most c = search most_some

pub returns-then-table-start-ne0-2 : goal.returns-then-table-start-ne0-2
returns-then-table-start-ne0-2 c = (search (lack_whole, most_some), omega arith)

pub overflow_sub-result : goal.overflow_sub-result
overflow_sub-result c = search (lack_within, most_some)
