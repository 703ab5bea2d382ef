use Rattle.std.proofs.Common.{subst, ◌∙◌}
use Rattle.std.specs.Prelude.{replicate}
use Rattle.std.proofs.lemmas.Result.{on_ok_weaker}
use Rattle.std.specs.Io.KnownBytes.{Appends}
use Rattle.image_program.specs.Answered.{Answered}
use Rattle.fill.specs.Lines.{fill_lines}
use Rattle.fill.proofs.judge.judge.Goals as goal

pub returns-in_ok-save : goal.returns-in_ok-save
returns-in_ok-save g c =
    let old = g.W.Write.contents c.args.output.now in
    let new = g.W.Write.contents c.print-printed.new.output in
    on_ok_weaker {Q = Answered (fill_lines (replicate 520 0) (replicate 32768 0)) (g.R.Read.remaining c.args.input.now) (g.R.Read.remaining c.read_full-n.new.input) old new} _
    (λ a. record { image = _; taken = c.read_full-n.ensures.consumed; written = subst (Appends old new) (c.reported.ensures ∙ c.filled-filled.ensures.text) a })
    c.print-printed.ensures

pub returns-else-is_ok : goal.returns-else-is_ok
returns-else-is_ok g c =
    let old = g.W.Write.contents c.args.output.now in
    let new = g.W.Write.contents c.print-printed.new.output in
    on_ok_weaker {Q = Answered (fill_lines (replicate 520 0) (replicate 32768 0)) (g.R.Read.remaining c.args.input.now) (g.R.Read.remaining c.read_full-n.new.input) old new} _
    (λ a. record { image = _; taken = c.read_full-n.ensures.consumed; written = subst (Appends old new) (c.reported.ensures ∙ c.filled-filled.ensures.text) a })
    c.print-printed.ensures
