use Rattle.putting.proofs.Putting.{put_then}
use Rattle.text.proofs.Pieces.{by_key}
use Rattle.survey.specs.Reports.{report_text}
use Rattle.survey.proofs.report.put.Goals as goal

pub returns-in-Surveyed-clause-put : goal.returns-in-Surveyed-clause-put
returns-in-Surveyed-clause-put c = by_key report_text _ _ c.in-Surveyed.is _ _ _ _ (search put_then)
