-- What loading asks of the image, and of the memory that it is loaded into.
use Rattle.std.specs.Prelude.{ℕ, ◌≤◌, ◌≡◌, true, List, length}
use Rattle.model.specs.Memory.{zeroed, state_length, tables_length}
use Rattle.model.specs.Image.{has_joins, im_version, joins_listed}
use Rattle.model.proofs.LoadingIsSound.{GoodImage}

-- nothing refuses the image but, of version 2, its state; and the memory is long enough
pub record Loads (s t im : List ℕ) : Type 0 where
  pub state : state_length ≤ length s
  pub tables : tables_length ≤ length t
  pub good : GoodImage im
  pub listed : has_joins (im_version im) ≡ true → joins_listed im ≡ true

-- the table memory is cleared, and the image's settings, ids and records are right
pub record Fills (t im : List ℕ) : Type 0 where
  pub before : List ℕ
  pub long : tables_length ≤ length before
  pub clear : t ≡ zeroed tables_length before
  pub good : GoodImage im
