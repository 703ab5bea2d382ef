-- `from_word`: the part from the first byte that is no blank. Assumes nothing.
use Rattle.script.proofs.Cuts.{from_word_is}
use Rattle.script.proofs.words.from_word.Goals as goal

pub returns : goal.returns
returns c = from_word_is _ _ (cc (c.unwrap_or-at.ensures, c.first_solid.ensures))
