-- `wordless`: the first word has no bytes. Assumes nothing.
use Rattle.std.proofs.Common.{◌∙◌}
use Rattle.script.proofs.Cuts.{wordless_is}
use Rattle.script.proofs.words.wordless.Goals as goal

pub returns : goal.returns
returns c = c.is_empty.ensures ∙ wordless_is _ _ c.first_word.ensures
