-- `lowest::first`: the node of the lowest bit. Assumes nothing.
use Rattle.std.proofs.Common.{◌∙◌, sym}
use borrow.Author.Tests.{eqb-false}
use Rattle.filling.proofs.SetLaws.{first_is}
use Rattle.filling.proofs.lowest.first.Goals as goal

pub returns-clause-some : goal.returns-clause-some
returns-clause-some c =
    first_is c.args.nodes (eqb-false c.args.nodes 0 (sym c.is_empty.ensures ∙ c.if-is_empty.false)) c.ranges.nodes.fits
