-- `looked_up`: how it ended, and the hops. Assumes nothing.
use Rattle.replay_words.proofs.Words.{looked_up_put}
use Rattle.replay_words.proofs.answer.looked_up.Goals as goal

pub returns-clause-put : goal.returns-clause-put
returns-clause-put c = looked_up_put _ _ _ _ _ _ _ _ _ c.ended-end.ensures.put c.count.ensures.put
