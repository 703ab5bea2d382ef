use Rattle.model.proofs.Zero.{or_zero}
use Rattle.state.proofs.zero.U8Place.or.Goals as goal

pub returns : goal.returns
returns c = or_zero c.args.self c.args.other
