use Rattle.verdict.proofs.Texts.{about_no_record}
use Rattle.verdict.proofs.report.is_about_record.Goals as goal

pub returns-in_default : goal.returns-in_default
returns-in_default c = about_no_record _ c.in_default.not-RecordOrder c.in_default.not-RecordNeighbor c.in_default.not-OwnEntry
