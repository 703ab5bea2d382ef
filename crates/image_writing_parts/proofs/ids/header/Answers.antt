-- `ids::header`: four bytes, and two behind them. Assumes nothing.
use Rattle.image_writing_parts.proofs.IdLaws.{header_put}
use Rattle.image_writing_parts.proofs.ids.header.Goals as goal

pub returns : goal.returns
returns c = search header_put
