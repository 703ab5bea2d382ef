use mathlib.Core.Path.{◌≡◌}
use lib.ListN.{length}
use Rattle.model.specs.Loops.{each_below}
use Rattle.model.specs.Image.{load_id}
use Rattle.image_loading.proofs.load_ids.Given as goal

abbrev pub invariant-loop-k : goal.invariant-loop-k
invariant-loop-k l =
    (length l.state ≡ length l.initial.state) × (l.state ≡ each_below l.k (load_id l.image.bytes.now) l.initial.state)
