use mathlib.Core.Path.{◌≡◌}
use lib.ListN.{length}
use Rattle.model.specs.Loops.{each_below}
use Rattle.model.specs.Image.{load_join}
use Rattle.image_joins.proofs.joins.load.Given as goal

abbrev pub invariant-loop-q : goal.invariant-loop-q
invariant-loop-q l =
    (length l.state ≡ length l.initial.state) × (l.state ≡ each_below l.q (load_join l.sections.image.bytes.now) l.initial.state)
