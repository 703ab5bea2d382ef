-- `fmt`: the line, put into a room, written whole. Assumes nothing.
use Prim.Native.Nat.{ℕ}
use mathlib.Core.Path.{ap, ◌∙◌}
use Rattle.std.proofs.Common.{rules}
use Rattle.std.proofs.Output.{has_written_of_eq}
use Rattle.text.proofs.Pieces.{put_shown}
use Rattle.replay_refusals.specs.Refused.{refused_text}
use Rattle.replay_refusals.proofs.RefusedDisplay.fmt.Goals as goal

pub returns-clause-writes : goal.returns-clause-writes
returns-clause-writes g c =
    let r = c.args.self.now in
    λ p ok.
    has_written_of_eq _ _ _ _ _
    (put_shown _ _ _ _ c.put-end.ensures.put ∙ ap (λ (n : ℕ). refused_text n r.first r.second) c.from-number.ensures) (search rules)
