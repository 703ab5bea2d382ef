-- The worked runs hold: each call of them computes. Assumes nothing.
use mathlib.Core.Path.{refl}
use Rattle.model.specs.Memory.{add_node, remove_node}
use Rattle.model.specs.Learning.{room_for, learn_at, learn, learn_place, learn_table}
use Rattle.model.specs.Join.{settle, begun, withdrawn, outstanding, deliver_copying, deliver_sent_on, attach_level, gather, deliver_attached, deliver_waiting, deliver_notifying, delivery, delivered}
use Rattle.model.specs.Refusals.{begin_refusal, withdraw_refusal, deliver_refusal}
use Rattle.model.specs.Calls.{begin_call, withdraw_call, deliver_call}
use Rattle.model.specs.Run.{step, after, play, history, starts, goes_on, is_run, tally, tally_from}
use Rattle.worked.specs.WorkedRun.{start, rest, events, answers, WorkedRun, wider, two_joins, left, WorkedCounts, typed_wrong, withdrawing, WorkedWithdrawal}
use Rattle.worked.proofs.Worked.{computing}

-- what a run computes with
running : Unit {0}
unfolding computing add_node remove_node room_for learn_at learn learn_place learn_table settle begun withdrawn outstanding deliver_copying deliver_sent_on attach_level gather deliver_attached deliver_waiting deliver_notifying delivery delivered begin_refusal withdraw_refusal deliver_refusal begin_call withdraw_call deliver_call step after play history starts goes_on is_run tally tally_from start rest events answers wider two_joins left typed_wrong withdrawing
running = tt

pub worked_run : WorkedRun
unfolding running
worked_run = record { run = refl; said = refl; requests = refl }

pub worked_counts : WorkedCounts
unfolding running
worked_counts = record { run = refl; settled = refl; requests = refl; notices = refl; sent = refl; answered = refl }

pub worked_withdrawal : WorkedWithdrawal
unfolding running
worked_withdrawal = record { run = refl; said = refl; requests = refl }
