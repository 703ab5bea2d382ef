use Rattle.fill.proofs.Texts.{record_line_put}
use Rattle.fill.proofs.added.record_line.Goals as goal

pub returns-clause-put : goal.returns-clause-put
returns-clause-put c = search record_line_put
