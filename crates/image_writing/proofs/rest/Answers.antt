-- `rest`: nothing, or the joins under way and the counts behind them. Assumes nothing.
use Rattle.image_writing.proofs.ImageLaws.{rest_skipped, joins_fit, counts_fit, rest_put}
use Rattle.image_writing.proofs.rest.Goals as goal

pub returns-then-not-has_joins : goal.returns-then-not-has_joins
returns-then-not-has_joins c = search rest_skipped

pub all-end-requires-clause-room : goal.all-end-requires-clause-room
all-end-requires-clause-room c = search joins_fit

pub all-requires : goal.all-requires
all-requires c = search counts_fit

pub returns : goal.returns
returns c = search rest_put
