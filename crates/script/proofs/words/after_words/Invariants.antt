-- what stands behind k words of the text stands behind the words left of the rest
use Rattle.std.proofs.Common.{◌≡◌, ◌-◌}
use Rattle.script.specs.Words.{after_words}
use Rattle.script.proofs.words.after_words.Given as goal

abbrev pub invariant-loop : goal.invariant-loop
invariant-loop l = after_words l.k l.text ≡ after_words (l.k - l.counter) l.rest
