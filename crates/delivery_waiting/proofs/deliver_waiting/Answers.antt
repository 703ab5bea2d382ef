-- `deliver_waiting`: the arm is the case of the definition. Assumes nothing.
use Rattle.delivery_parts.proofs.Deliveries.{waiting_attaches, waiting_sends}
use Rattle.delivery_waiting.proofs.deliver_waiting.Goals as goal

pub returns-in-None : goal.returns-in-None
returns-in-None c = waiting_attaches _ _ _ _ _ c.in-None.ensures.room c.attach.ensures

pub returns-in-Some : goal.returns-in-Some
returns-in-Some c = waiting_sends _ _ _ _ _ c.in-Some.ensures.full.0 c.send_on.ensures
