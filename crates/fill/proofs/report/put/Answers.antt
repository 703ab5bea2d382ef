use Rattle.putting.proofs.Putting.{put_then}
use Rattle.text.proofs.Pieces.{by_key}
use Rattle.fill.specs.Reports.{report_text}
use Rattle.fill.proofs.report.put.Goals as goal

pub returns-in-Filled-clause-put : goal.returns-in-Filled-clause-put
returns-in-Filled-clause-put c = by_key report_text _ _ c.in-Filled.is _ _ _ _ (search put_then)
