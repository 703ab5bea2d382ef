-- `value`: the number that the word is, is the one from the loop's place on, behind the value so far. Assumes nothing.
use Rattle.std.proofs.Common.{rules, ◌∙◌}
use Rattle.script.proofs.Values.{number_holds, number_goes, number_below, number_leaves, number_ends}
use Rattle.script.proofs.numbers.value.Goals as goal

pub loop-b-init : goal.loop-b-init
loop-b-init c = search (rules, number_holds)

pub returns-in_err-n : goal.returns-in_err-n
returns-in_err-n c =
    c.from_residual.ensures
    ∙ number_leaves _ _ _ _ _ c.loop-b.invariant.0 c.loop-b-test.true c.with_digit.ensures c.requires.0 c.in_err-n.was

pub loop-b-preserved : goal.loop-b-preserved
loop-b-preserved c = search (rules, number_goes, number_below)

pub returns : goal.returns
returns c = search number_ends
