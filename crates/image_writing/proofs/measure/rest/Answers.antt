-- `measure::rest`: none, or 20 bytes a join and 2 a node, with the two counts. Assumes nothing.
use native.Mathlib.Omega.{arith}
use Rattle.image_writing.proofs.ImageLaws.{no_rest, rest_measured}
use Rattle.image_writing.proofs.measure.rest.Goals as goal

pub returns-then-not-has_joins : goal.returns-then-not-has_joins
returns-then-not-has_joins c = (search no_rest, omega arith)

pub returns : goal.returns
returns c = (search rest_measured, omega arith)
