-- `behind_word`: from that blank on. Assumes nothing.
use Rattle.script.proofs.Cuts.{behind_word_is}
use Rattle.script.proofs.words.behind_word.Goals as goal

pub returns : goal.returns
returns c = behind_word_is _ _ _ c.from_word-word.ensures (cc (c.unwrap_or-at.ensures, c.first_blank.ensures))
