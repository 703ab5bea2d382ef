use Rattle.fill.proofs.Texts.{added_put}
use Rattle.fill.proofs.added.added_lines.Goals as goal

pub returns-clause-put : goal.returns-clause-put
returns-clause-put c = search added_put
