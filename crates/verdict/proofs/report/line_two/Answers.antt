use Rattle.verdict.proofs.Texts.{line_two_put}
use Rattle.verdict.proofs.report.line_two.Goals as goal

pub returns-clause-put : goal.returns-clause-put
returns-clause-put c = search line_two_put
