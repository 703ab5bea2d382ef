-- What the functions over one node's table ask of their callers.
use Rattle.std.specs.Prelude.{ℕ, ◌≤◌, List, length}

-- a table and settings that can be
pub record Shape (T : List ℕ) (d b K : ℕ) : Type 0 where
  pub long : 512 ≤ length T
  pub digits : d ≤ 8
  pub base : b ≤ 16
  pub depth : K ≤ 4
