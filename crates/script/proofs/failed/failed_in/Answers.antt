-- `failed_in`: the set of the text's numbers is the set so far with those of the rest. Assumes nothing.
use Rattle.std.proofs.Common.{◌∙◌, ap, not}
use Rattle.script.proofs.FailedNodes.{failed_holds, failed_ends, rest_shorter, failed_leaves, failed_goes}
use Rattle.script.proofs.failed.failed_in.Goals as goal

pub loop-rest-init : goal.loop-rest-init
loop-rest-init c = search failed_holds

pub returns-in_err-decimal_of : goal.returns-in_err-decimal_of
returns-in_err-decimal_of c =
    c.from_residual.ensures
    ∙ failed_leaves _ _ _ c.loop-rest.invariant _ c.wordless.ensures (ap not c.loop-rest-test.true) _ _ c.first_word.ensures c.decimal_of.ensures c.in_err-decimal_of.was

pub loop-rest-smaller : goal.loop-rest-smaller
loop-rest-smaller c = search rest_shorter

pub loop-rest-preserved : goal.loop-rest-preserved
loop-rest-preserved c =
    failed_goes _ _ _ c.loop-rest.invariant _ c.wordless.ensures (ap not c.loop-rest-test.true) _ _ c.first_word.ensures c.decimal_of.ensures _ _ _
    c.in_ok-decimal_of.was c.add_number-failed.ensures c.behind_word-rest.ensures

pub returns : goal.returns
returns c = search failed_ends
