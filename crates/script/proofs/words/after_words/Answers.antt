-- `after_words`: one word more stands behind the rest. Assumes nothing.
use Rattle.std.proofs.Common.{◌≡◌, ◌-◌, ◌+◌, subst, arith}
use Rattle.script.specs.Words.{after_words}
use Rattle.script.proofs.Cuts.{words_go, words_end}
use Rattle.script.proofs.words.after_words.Goals as goal

pub loop-preserved : goal.loop-preserved
loop-preserved c =
    let left : c.args.k - c.loop.counter - 1 ≡ c.args.k - (c.loop.counter + 1) = omega arith in
    subst (λ n. after_words c.args.k c.args.text.now ≡ after_words n c.behind_word-rest.result.now) left
    (words_go _ _ _ _ c.loop.invariant _ (omega (arith, c.loop-test.true)) c.behind_word-rest.ensures)

pub returns : goal.returns
returns c = words_end _ _ _ _ c.loop.invariant (omega (arith, c.loop-test.false, c.loop.auto.counter-end))
