-- `print`: the lines that were put are what is written. Assumes nothing.
use Rattle.text.proofs.Pieces.{put_shown}
use Rattle.replay.proofs.Turns.{written}
use Rattle.replay.proofs.fills.print.Goals as goal

pub returns : goal.returns
returns g c = written _ _ _ _ _ (put_shown _ _ _ _ c.additions-end.ensures.put) c.write_all.ensures.bytes
