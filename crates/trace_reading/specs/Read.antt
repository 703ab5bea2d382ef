-- The count of a path, as it is read where the path starts.
use Rattle.std.specs.Prelude.{ℕ, ◌+◌, ◌≤◌, ◌<◌, Bool, cond, ◌&&◌, Option, None, Some, List, ltb, length}
use Rattle.model.specs.Image.{byte_at}
use Rattle.model.specs.Traces.{from_one_to_nine}

-- the path that starts at `at` has a count from 1 to 9, and the trace its places
pub record CountRight (trace : List ℕ) (at : ℕ) : Type 0 where
  pub least : 1 ≤ byte_at trace at
  pub most : byte_at trace at ≤ 9
  pub within : at + byte_at trace at < length trace

-- the same as a test
unfoldable pub count_right_at : List ℕ → ℕ → Bool
count_right_at trace at = from_one_to_nine (byte_at trace at) && ltb (at + byte_at trace at) (length trace)

unfoldable pub count_at : List ℕ → ℕ → Option ℕ
count_at trace at = cond (count_right_at trace at) (Some (byte_at trace at)) None
