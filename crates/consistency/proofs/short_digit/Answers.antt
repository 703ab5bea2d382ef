-- `short_digit`: no entry before `j` lacks a node. Assumes nothing.
use Rattle.std.proofs.Common.{arith}
use Rattle.consistency.proofs.Judged.{digit_leaves, digit_goes, level_is_whole}
use Rattle.consistency.proofs.short_digit.Goals as goal

pub returns-then-lack-gt0-clause-some : goal.returns-then-lack-gt0-clause-some
returns-then-lack-gt0-clause-some c = (omega arith, search digit_leaves)

pub loop-j-preserved : goal.loop-j-preserved
loop-j-preserved c =
    let s = c.settings-s.ensures in
    digit_goes _ _ c.args.network.now.sound c.args.x c.requires.node _ c.args.i _ _ _ _ c.loop-j.j _ _ c.requires.having c.requires.sharing c.requires.level
    s.base s.depth c.table-table.ensures.0 c.loop-j-test.true c.among.ensures c.lack.ensures.0 c.loop-j.invariant c.if-lack-gt0.false

pub returns-clause-none : goal.returns-clause-none
returns-clause-none c = level_is_whole _ _ _ _ (omega arith)
