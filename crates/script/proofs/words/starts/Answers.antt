-- `starts`: by what `==` says of two slices. Assumes nothing.
use Rattle.script.proofs.Texts.{starts_is}
use Rattle.script.proofs.words.starts.Goals as goal

pub returns : goal.returns
returns c = search starts_is
