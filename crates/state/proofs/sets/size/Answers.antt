-- `size`: the word's set bits are the nodes of the set. Assumes nothing.
use Rattle.model.proofs.SetSizes.{size_code}
use Rattle.state.proofs.sets.size.Goals as goal

pub returns : goal.returns
returns c = size_code c.args.nodes c.ranges.nodes.fits
