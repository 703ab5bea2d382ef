use mathlib.Core.Path.{◌≡◌}
use lib.ListN.{length}
use Rattle.model.specs.Loops.{each_below}
use Rattle.model.specs.Image.{load_record}
use Rattle.image_loading.proofs.load_records.Given as goal

abbrev pub invariant-loop-r : goal.invariant-loop-r
invariant-loop-r l =
    (length l.tables ≡ length l.initial.tables) × (l.tables ≡ each_below l.r (load_record l.image.bytes.now) l.initial.tables)
