-- `indent`: each arm is a case of the definition. Assumes nothing.
use Rattle.replay_survey.proofs.Pieces.{three_spaces, two_spaces, one_space, no_space}
use Rattle.replay_survey.proofs.lines.indent.Goals as goal

pub returns-in-0-to-9-clause-put : goal.returns-in-0-to-9-clause-put
returns-in-0-to-9-clause-put c = search three_spaces

pub returns-in-10-to-99-clause-put : goal.returns-in-10-to-99-clause-put
returns-in-10-to-99-clause-put c = search two_spaces

pub returns-in-100-to-999-clause-put : goal.returns-in-100-to-999-clause-put
returns-in-100-to-999-clause-put c = search one_space

pub returns-in_default-clause-put : goal.returns-in_default-clause-put
returns-in_default-clause-put c = search no_space
