-- `write`: refused, or the image at the start of the output. Assumes nothing.
use Rattle.model.specs.Calls.{write_call}
use Rattle.engine.proofs.Laws.{refused_by, writes_image, written}
use Rattle.engine.proofs.writing.write.Goals as goal

pub returns-in_err-network : goal.returns-in_err-network
unfolding write_call
returns-in_err-network c = refused_by _ _ c.from_residual.ensures _ _ 1 _ _ c.in_err-network.ensures.refusal _

pub write-requires : goal.write-requires
write-requires c =
    let w = writes_image _ _ _ _ c.in_ok-network.ensures.ok _ _ c.in_ok-network.ensures.refusal in
    record { version_bound = w.0; room = w.1 }

pub returns : goal.returns
returns c = written _ _ _ _ c.in_ok-network.ensures.ok _ _ _ _ c.in_ok-network.ensures.refusal c.write.ensures
