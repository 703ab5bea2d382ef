-- What the survey program says, as text.
use Rattle.std.specs.Prelude.{ℕ, List, ◌++◌}
use Rattle.answers.specs.Numbers.{number_of}
use Rattle.image_program.specs.Printed.{line_one}
use Rattle.survey.specs.Lines.{count_lines}
use Rattle.survey.specs.declared.report.Report.{Report}
use Rattle.survey.specs.declared.report.Report.TheVariants.{Refused, Surveyed}

abbrev pub report_text : Report → List ℕ
report_text (Refused r) = line_one (number_of r)
report_text (Surveyed s) = line_one 0 ++ count_lines s.digits s.counts
