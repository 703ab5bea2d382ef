-- `table`: the table of a node, or the refusal. Assumes nothing.
use native.Mathlib.Omega.{arith}
use mathlib.Core.Path.{sym, ap, ◌∙◌}
use Rattle.replay_refusals.specs.Refused.{refused_text}
use Rattle.text.proofs.Pieces.{by_key}
use Rattle.replay.proofs.Turns.{says_refused, says_shown}
use Rattle.replay.proofs.said.table.Goals as goal

pub returns-in-Ok : goal.returns-in-Ok
returns-in-Ok c =
    let j = c.in-Ok.ensures in
    record { put = by_key (λ text. text) _ _ (sym (rw (j.ok.0, j.ok.1, j.ends.0.0) (says_shown _ _ j.refusal))) _ _ _ _ c.put.ensures.put; upper_bound = omega arith }

pub returns-in-Err : goal.returns-in-Err
returns-in-Err c =
    let said = ap (λ number. refused_text number 0 0) c.from.ensures ∙ says_refused _ _ _ c.in-Err.ensures.refusal in
    record { put = by_key (λ text. text) _ _ (sym said) _ _ _ _ c.put-in-Err.ensures.put; upper_bound = omega arith }
