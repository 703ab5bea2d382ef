-- `behind`: the words of what stands before the comment. Assumes nothing.
use Rattle.script.proofs.Cuts.{behind_is}
use Rattle.script.proofs.words.behind.Goals as goal

pub returns : goal.returns
returns c = behind_is _ _ _ _ (cc (c.unwrap_or-end.ensures, c.first_hash.ensures)) c.after_words.ensures
