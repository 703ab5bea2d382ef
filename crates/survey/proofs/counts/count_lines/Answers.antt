use Rattle.survey.proofs.Texts.{count_lines_put}
use Rattle.survey.proofs.counts.count_lines.Goals as goal

pub returns-clause-put : goal.returns-clause-put
returns-clause-put c = search count_lines_put
