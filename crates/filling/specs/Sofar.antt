-- What was filled and listed so far, read off the memory, as the book has it.
use Rattle.std.specs.Prelude.{ℕ, ◌≤◌, ◌≡◌, List, length, take, drop}
use Rattle.model.specs.Fill.{Filling}

-- t is the table memory, and the list stands in out before place at
abbrev pub sofar : List ℕ → List ℕ → ℕ → Filling
sofar t out at = record { tables = t; list = take at out }

-- the list so far and that of g, which goes on from it, fit
pub record Fits (g : Filling) (out : List ℕ) (at : ℕ) : Type 0 where
  pub start : at ≤ length out
  pub room : length g.list ≤ length out

-- what out and the list before place at became: t, out and place r give g, and the rest of out stays as it was
pub record Listed (before : List ℕ) (at : ℕ) (g : Filling) (t out : List ℕ) (r : ℕ) : Type 0 where
  pub is : sofar t out r ≡ g
  pub rest : drop r out ≡ drop r before
  pub same : length out ≡ length before
  pub start : at ≤ r
  pub within : r ≤ length out
