-- What the verdict program says, as text.
use Rattle.std.specs.Prelude.{ℕ, List, ◌++◌}
use Rattle.answers.specs.Numbers.{number_of}
use Rattle.text.specs.Ascii.{ascii}
use Rattle.text.specs.Lines.{line}
use Rattle.image_program.specs.Printed.{line_one}
use Rattle.verdict.specs.Lines.{line_two}
use Rattle.verdict.specs.declared.report.Report.{Report}
use Rattle.verdict.specs.declared.report.Report.TheVariants.{Refused, AtRecord, Consistent, Short}

abbrev pub report_text : Report → List ℕ
report_text (Refused r) = line_one (number_of r)
report_text (AtRecord r place) = line_one (number_of r) ++ line (ascii "record ") place
report_text Consistent = line_one 0 ++ line_two 1 0 0 0
report_text (Short e) = line_one 0 ++ line_two 0 e.node e.level e.digit
