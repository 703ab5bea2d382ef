-- What was put where in lent memory; the rest of the memory stays as it was. Said of bytes, and of words alike.
use Rattle.std.specs.Prelude.{ℕ, ◌+◌, ◌≤◌, ◌≡◌, List, ◌++◌, length, take, drop}

-- out with the bytes bs from place a on
unfoldable pub put : List ℕ → ℕ → List ℕ → List ℕ
put out a bs = take a out ++ (bs ++ drop (a + length bs) out)

-- bs, which fit, were put at a; what out is then, and the place behind them
pub record Put (out : List ℕ) (a : ℕ) (bs after : List ℕ) (end : ℕ) : Type 0 where
  pub fits : a + length bs ≤ length out
  pub is : after ≡ put out a bs
  pub ends : end ≡ a + length bs
