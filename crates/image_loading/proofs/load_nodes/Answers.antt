-- `load_nodes`: the stores on cleared words are those of `loaded_ids`. Assumes nothing.
use Rattle.image_loading.proofs.Steps.{nodes_loaded}
use Rattle.image_loading.proofs.load_nodes.Goals as goal

pub returns : goal.returns
returns c =
    nodes_loaded _ _ _ _ _ _ c.args.image.now.headed c.clear.ensures c.load_settings.ensures c.load_ids.ensures
