-- `own_table`: each turn writes the own slot of its level, from an array of zeros on. Assumes nothing.
use Rattle.std.proofs.Common.{arith}
use Rattle.model.specs.Tables.{own_table}
use Rattle.model.proofs.Loops.{each_zero, each_ends}
use Rattle.model.proofs.TableSteps.{own_goes}
use Rattle.tables.proofs.own.own_table.Goals as goal

pub loop-i-init : goal.loop-i-init
loop-i-init c = search each_zero

pub loop-i-preserved : goal.loop-i-preserved
loop-i-preserved c = search own_goes

pub returns : goal.returns
unfolding own_table
returns c = each_ends _ _ _ c.loop-i.i _ c.loop-i.invariant (omega (arith, c.loop-i.auto.i-end)) c.loop-i-test.false
