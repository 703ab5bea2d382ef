-- `first_line`: what stands before the first byte that ends it, or the whole text. Assumes nothing.
use Rattle.std.proofs.Common.{arith, ℕ, List, sym, ap, ◌∙◌, take, drop, length, ◌+◌, ◌≤◌}
use Rattle.std.specs.List.{position_or_len}
use lib.Seq.{take_all}
use Rattle.std.proofs.Math.ListN.{drop_of_length-le}
use Rattle.replay.specs.Script.{ends_line}
use Rattle.replay.proofs.ScriptLines.{ends_at, no_end, from_place}
use Rattle.replay.proofs.first_line.Goals as goal

pub returns-in-Some : goal.returns-in-Some
returns-in-Some c =
    let text : List ℕ = c.args.text.now in
    let k = ends_at text _ (sym c.line_end.ensures ∙ c.in-Some.is) in
    record { line = ap (λ n. take n text) k; behind = from_place text (c.in-Some.end + 1) ∙ ap (λ n. drop (n + 1) text) k }

pub returns-in-None : goal.returns-in-None
returns-in-None c =
    let text : List ℕ = c.args.text.now in
    let l : length text ≤ position_or_len ends_line text = no_end text (sym c.line_end.ensures ∙ c.in-None.is) in
    let all : length text ≤ length text = omega arith in
    let past : length text ≤ position_or_len ends_line text + 1 = omega (arith, l) in
    record { line = sym (take_all _ _ l); behind = from_place text (length text) ∙ drop_of_length-le text all ∙ sym (drop_of_length-le text past) }
