-- What the fill program says, as text.
use Rattle.std.specs.Prelude.{ℕ, ◌+◌, ◌*◌, List, ◌++◌}
use Rattle.answers.specs.Numbers.{number_of}
use Rattle.image_program.specs.Printed.{line_one}
use Rattle.fill.specs.Lines.{added_lines}
use Rattle.fill.specs.declared.report.Report.{Report}
use Rattle.fill.specs.declared.report.Report.TheVariants.{Refused, Filled}

abbrev pub report_text : Report → List ℕ
report_text (Refused r) = line_one (number_of r)
report_text (Filled a) = line_one 0 ++ added_lines a.n a.list.now

-- how many bytes that is at most
abbrev pub most_reported : Report → ℕ
most_reported (Refused r) = 29
most_reported (Filled a) = 56 + 91 * a.n
