-- `count`: the number, and one of two pieces. Assumes nothing.
use Rattle.replay_words.proofs.Words.{one_put, many_put}
use Rattle.replay_words.proofs.answer.count.Goals as goal

pub returns-then-n-eq1-clause-put : goal.returns-then-n-eq1-clause-put
returns-then-n-eq1-clause-put c = search one_put

pub returns-else-n-eq1-clause-put : goal.returns-else-n-eq1-clause-put
returns-else-n-eq1-clause-put c = search many_put
