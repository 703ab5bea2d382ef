-- `id`: a valid id fits 32 bits. Assumes nothing.
use native.Mathlib.Omega.{arith}
use Rattle.state.proofs.Words.{word_fits}
use Rattle.state.proofs.node.id.Goals as goal

pub overflow_cast-result : goal.overflow_cast-result
overflow_cast-result c = omega (arith, word_fits _ c.requires.identified c.args.x c.requires.node)
