-- `load`: the stores on cleared memory are those of `loaded`. Assumes nothing.
use Rattle.image_loading.proofs.Steps.{loaded_is}
use Rattle.image_loading.proofs.load.Goals as goal

pub returns : goal.returns
returns c = search loaded_is
