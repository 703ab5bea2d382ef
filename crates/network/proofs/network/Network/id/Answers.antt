use Rattle.std.proofs.Common.{arith}
use Rattle.model.proofs.Sound.{id_fits}
use Rattle.network.proofs.network.Network.id.Goals as goal

pub overflow_cast-result : goal.overflow_cast-result
overflow_cast-result c = omega (arith, c.id.ensures, id_fits _ _ c.args.self.now.sound _ c.requires)
