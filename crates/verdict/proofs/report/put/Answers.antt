use Rattle.std.proofs.Common.{sym}
use Rattle.putting.proofs.Putting.{put_then}
use Rattle.text.proofs.Pieces.{by_key}
use Rattle.image_program.specs.Printed.{line_one}
use Rattle.verdict.specs.Reports.{report_text}
use Rattle.verdict.proofs.report.put.Goals as goal

pub returns-in-AtRecord-clause-put : goal.returns-in-AtRecord-clause-put
returns-in-AtRecord-clause-put c =
    let first = by_key line_one _ _ (sym c.into-in-AtRecord.ensures) _ _ _ _ c.line_one-at.ensures.put in
    by_key report_text _ _ c.in-AtRecord.is _ _ _ _ (put_then _ _ _ _ _ _ _ _ first c.line.ensures.put)

pub returns-in-Consistent-clause-put : goal.returns-in-Consistent-clause-put
returns-in-Consistent-clause-put c = by_key report_text _ _ c.in-Consistent.is _ _ _ _ (search put_then)

pub returns-in-Short-clause-put : goal.returns-in-Short-clause-put
returns-in-Short-clause-put c = by_key report_text _ _ c.in-Short.is _ _ _ _ (search put_then)
