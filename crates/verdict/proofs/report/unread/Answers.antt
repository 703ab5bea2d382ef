use Rattle.std.proofs.Common.{sym, ◌∙◌}
use Rattle.verdict.proofs.Texts.{record_is, no_record_is}
use Rattle.verdict.proofs.report.unread.Goals as goal

pub returns-then-is_about_record : goal.returns-then-is_about_record
returns-then-is_about_record c = record_is _ _ (sym c.if-is_about_record.true ∙ c.is_about_record.ensures)

pub returns-else-is_about_record : goal.returns-else-is_about_record
returns-else-is_about_record c = no_record_is _ _ (sym c.if-is_about_record.false ∙ c.is_about_record.ensures)
