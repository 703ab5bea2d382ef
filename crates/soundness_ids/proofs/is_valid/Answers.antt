-- `is_valid`: a word above 32 bits has a bit above eight digits, so no number of digits makes it valid. Assumes nothing.
use Rattle.std.proofs.Common.{arith}
use Rattle.soundness_ids.proofs.Words.{word_invalid}
use Rattle.soundness_ids.proofs.is_valid.Goals as goal

pub returns-else-id-le-LARGEST : goal.returns-else-id-le-LARGEST
returns-else-id-le-LARGEST c = word_invalid _ _ _ _ (omega arith) c.id-id.ensures (omega arith)
