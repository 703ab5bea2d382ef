-- `taken`: each arm is the public call of its kind. Assumes nothing.
use Rattle.model.specs.Run.{step}
use Rattle.replay_calls.proofs.Ones.{plays, output, speaks, speaks_file, speaks_digits}
use Rattle.replay_calls.proofs.one.taken.Goals as goal

pub returns-in-Found : goal.returns-in-Found
unfolding step
returns-in-Found c =
    record { result_after = search plays; out_after = search output; says = search speaks }

pub returns-in-Read : goal.returns-in-Read
unfolding step
returns-in-Read c =
    record { result_after = search plays; out_after = search output; says = search speaks_file }

pub returns-in-Begin : goal.returns-in-Begin
unfolding step
returns-in-Begin c =
    record { result_after = search plays; out_after = search output; says = search speaks }

pub returns-in-Withdraw : goal.returns-in-Withdraw
unfolding step
returns-in-Withdraw c =
    record { result_after = search plays; out_after = search output; says = search speaks }

pub returns-in-Deliver : goal.returns-in-Deliver
unfolding step
returns-in-Deliver c =
    record { result_after = search plays; out_after = search output; says = search speaks }

pub returns-in-Lookup : goal.returns-in-Lookup
unfolding step
returns-in-Lookup c =
    record { result_after = search plays; out_after = search output; says = search speaks }

pub returns-in-Survey : goal.returns-in-Survey
unfolding step
returns-in-Survey c =
    record { result_after = search plays; out_after = search output; says = search speaks_digits }

pub returns-in-Verdict : goal.returns-in-Verdict
unfolding step
returns-in-Verdict c =
    record { result_after = search plays; out_after = search output; says = search speaks }

pub returns-in-Fill : goal.returns-in-Fill
unfolding step
returns-in-Fill c =
    record { result_after = search plays; out_after = search output; says = search speaks }

pub returns-in-Write : goal.returns-in-Write
unfolding step
returns-in-Write c =
    record { result_after = search plays; out_after = search output; says = search speaks }

pub returns-in-Trace : goal.returns-in-Trace
unfolding step
returns-in-Trace c =
    record { result_after = search plays; out_after = search output; says = search speaks_file }

pub returns-in-Sound : goal.returns-in-Sound
unfolding step
returns-in-Sound c =
    record { result_after = search plays; out_after = search output; says = search speaks }
