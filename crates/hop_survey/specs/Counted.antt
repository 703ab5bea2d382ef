-- What the pass over the pairs counts, and where. C are the counts: place h − 1 for h hops, place 8 for lost.
use Rattle.std.specs.Prelude.{ℕ, ◌+◌, ◌-◌, ◌≤◌, ◌<◌, ◌≡◌, cond, List, eqb, length, get_or, set}
use Rattle.model.specs.Loops.{each_below, node}
use Rattle.model.specs.Memory.{node_count}
use Rattle.model.specs.Lookup.{Lookup, lookup}
use Rattle.model.specs.Survey.{is_pair}

-- nine counts, none above `most`
pub record Room (most : ℕ) (C : List ℕ) : Type 0 where
  pub long : length C ≡ 9
  pub few : (p : ℕ) → p < 9 → get_or C p 0 ≤ most

-- where a lookup is counted
unfoldable pub place_of : Lookup → ℕ
place_of r = cond (eqb r.arrived 1) (r.hops - 1) 8

-- one more at place p
abbrev pub count_at : ℕ → List ℕ → List ℕ
count_at p C = set C p (get_or C p 0 + 1)

-- u and z, if they are a pair
unfoldable pub count_pair : List ℕ → List ℕ → ℕ → ℕ → ℕ → List ℕ → List ℕ
count_pair s t failed u z C = cond (is_pair failed u z) (count_at (place_of (lookup s t failed u z)) C) C

-- the pairs from u
unfoldable pub count_from : List ℕ → List ℕ → ℕ → ℕ → List ℕ → List ℕ
count_from s t failed u C = each_below (node_count s) (node (count_pair s t failed u)) C
