-- `bytes`: two pieces. Assumes nothing.
use Rattle.replay_words.proofs.Words.{bytes_put}
use Rattle.replay_words.proofs.answer.bytes.Goals as goal

pub returns-clause-put : goal.returns-clause-put
returns-clause-put c = search bytes_put
