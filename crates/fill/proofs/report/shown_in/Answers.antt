use Rattle.std.proofs.Output.{has_written_of_eq}
use Rattle.text.proofs.Pieces.{put_shown}
use Rattle.fill.proofs.report.shown_in.Goals as goal

pub returns : goal.returns
returns g c = λ p ok. has_written_of_eq _ _ _ _ _ (put_shown _ _ _ _ c.put-end.ensures.put) (c.shown.ensures p ok)
