-- `command`: a command with a file or a list, and none, puts nothing. Assumes nothing.
use Rattle.replay.proofs.Turns.{nothing_says, fill_says, save_says, load_says, trace_says}
use Rattle.replay.proofs.said.command.Goals as goal

pub returns-in-Nothing-clause-put : goal.returns-in-Nothing-clause-put
returns-in-Nothing-clause-put c = search nothing_says

pub returns-in-Fill-clause-put : goal.returns-in-Fill-clause-put
returns-in-Fill-clause-put c = search fill_says

pub returns-in-Save-clause-put : goal.returns-in-Save-clause-put
returns-in-Save-clause-put c = search save_says

pub returns-in-Load-clause-put : goal.returns-in-Load-clause-put
returns-in-Load-clause-put c = search load_says

pub returns-in-Trace-clause-put : goal.returns-in-Trace-clause-put
returns-in-Trace-clause-put c = search trace_says
