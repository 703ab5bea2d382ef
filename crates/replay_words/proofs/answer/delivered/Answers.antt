-- `delivered`: what it was, and whether the sender settled. Assumes nothing.
use Rattle.replay_words.proofs.Words.{delivered_put}
use Rattle.replay_words.proofs.answer.delivered.Goals as goal

pub returns-clause-put : goal.returns-clause-put
returns-clause-put c = delivered_put _ _ _ _ _ _ _ _ _ c.kind-end.ensures.put c.settled.ensures.put
