-- `plain`: what was put is what is written. Assumes nothing.
use Rattle.text.proofs.Pieces.{put_shown}
use Rattle.replay.proofs.Turns.{written}
use Rattle.replay.proofs.turn.plain.Goals as goal

pub returns : goal.returns
returns g c =
    record { tables_after = c.command-end.ensures.tables_after; written = written _ _ _ _ _ (put_shown _ _ _ _ c.command-end.ensures.put) c.write_all.ensures.bytes }
