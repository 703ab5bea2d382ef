-- `enter`: the test is that of `entered`. Assumes nothing.
use Rattle.image_judging.proofs.Runs.{enter_stays, enter_moves}
use Rattle.image_judging.proofs.cursor.Cursor.enter.Goals as goal

pub returns-then-self-key : goal.returns-then-self-key
returns-then-self-key c = enter_stays _ _ c.if-self-key.true

pub returns : goal.returns
returns c = enter_moves _ _ c.if-self-key.false
