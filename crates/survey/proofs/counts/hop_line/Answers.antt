use Rattle.survey.proofs.Texts.{hop_line_put}
use Rattle.survey.proofs.counts.hop_line.Goals as goal

pub returns-clause-put : goal.returns-clause-put
returns-clause-put c = search hop_line_put
