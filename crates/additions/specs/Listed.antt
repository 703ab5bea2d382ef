-- Memory for a list of additions, and an addition of a list as the code holds it.
use Rattle.std.specs.Prelude.{ℕ, ◌+◌, ◌*◌, ◌≡◌, List, get_or, replicate}
use Rattle.additions.specs.declared.Addition.{Addition}

-- enough for every list
unfoldable pub blank : List ℕ
blank = replicate 21504 0

pub record AdditionOf (list : List ℕ) (r : ℕ) (a : Addition) : Type 0 where
  pub node : a.node ≡ get_or list (4 * r) 0
  pub level : a.level ≡ get_or list (4 * r + 1) 0
  pub digit : a.digit ≡ get_or list (4 * r + 2) 0
  pub neighbor : a.neighbor ≡ get_or list (4 * r + 3) 0
