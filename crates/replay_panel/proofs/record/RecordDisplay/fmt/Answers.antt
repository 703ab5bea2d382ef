-- `fmt`: what was put is what is written. Assumes nothing.
use Rattle.std.proofs.Output.{has_written_of_eq}
use Rattle.text.proofs.Pieces.{put_shown}
use Rattle.replay_panel.proofs.record.RecordDisplay.fmt.Goals as goal

pub returns-clause-writes : goal.returns-clause-writes
returns-clause-writes g c = λ p ok. has_written_of_eq _ _ _ _ _ (put_shown _ _ _ _ c.put-end.ensures.put) (c.shown.ensures p ok)
