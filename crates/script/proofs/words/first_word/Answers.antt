-- `first_word`: up to the first blank behind the word's start. Assumes nothing.
use Rattle.script.proofs.Cuts.{first_word_is}
use Rattle.script.proofs.words.first_word.Goals as goal

pub returns : goal.returns
returns c = first_word_is _ _ _ c.from_word-word.ensures (cc (c.unwrap_or-end.ensures, c.first_blank.ensures))
