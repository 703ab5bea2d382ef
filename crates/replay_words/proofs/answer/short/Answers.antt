-- `short`: the entry, and what is said of it. Assumes nothing.
use Rattle.replay_words.proofs.Words.{short_put}
use Rattle.replay_words.proofs.answer.short.Goals as goal

pub returns-clause-put : goal.returns-clause-put
returns-clause-put c = short_put _ _ _ _ _ _ _ _ _ c.place-end.ensures.put c.piece.ensures
