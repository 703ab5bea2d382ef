-- Where the joins under way and the counts of an image of version 2 stand. im is the image.
use Rattle.std.specs.Prelude.{ℕ, ◌+◌, ◌*◌, ◌≡◌, List, length}
use Rattle.model.specs.Image.{records_end, im_joins, joins_end, im_counts}

-- the first join stands at f, there are n joins, the count of the counts stands at c, and the
-- image ends with the counts
pub record SectionsAt (im : List ℕ) (f n c : ℕ) : Type 0 where
  pub whole : length im ≡ joins_end im + 1 + 2 * im_counts im
  pub first : f ≡ records_end im + 1
  pub joins : n ≡ im_joins im
  pub counts : c ≡ joins_end im
