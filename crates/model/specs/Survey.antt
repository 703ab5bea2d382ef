-- The hop survey of a network: document 02, Tickets 1 and 6. Ordered pairs of different nodes, neither of them failed, are counted by what the lookup
-- from the first to the second answers.
use Rattle.std.specs.Prelude.{ℕ, Bool, not, ◌&&◌, List, [], ◌∷◌, eqb}
use Rattle.model.specs.Nodes.{count_nodes, sum_nodes}
use Rattle.model.specs.Lookup.{lookup, end_failed}

-- the lookup from u to z arrives in h hops
unfoldable pub arrives_in : List ℕ → List ℕ → ℕ → ℕ → ℕ → ℕ → Bool
arrives_in s t failed h u z = eqb (lookup s t failed u z).arrived 1 && eqb (lookup s t failed u z).hops h

-- the lookup from u to z is lost
unfoldable pub is_lost : List ℕ → List ℕ → ℕ → ℕ → ℕ → Bool
is_lost s t failed u z = eqb (lookup s t failed u z).arrived 0

-- u and z are different, and neither has failed
unfoldable pub is_pair : ℕ → ℕ → ℕ → Bool
is_pair failed u z = not (eqb u z) && not (end_failed failed u z)

-- they are such a pair, and the test f holds of them
abbrev pub of_pair : ℕ → (ℕ → ℕ → Bool) → ℕ → ℕ → Bool
of_pair failed f u z = is_pair failed u z && f u z

-- of how many pairs from u the test f holds
abbrev pub pairs_from : List ℕ → ℕ → (ℕ → ℕ → Bool) → ℕ → ℕ
pairs_from s failed f u = count_nodes s (of_pair failed f u)

-- of how many pairs the test f holds
unfoldable pub count_pairs : List ℕ → ℕ → (ℕ → ℕ → Bool) → ℕ
count_pairs s failed f = sum_nodes s (pairs_from s failed f)

-- how many pairs arrive in h hops
abbrev pub hop_pairs : List ℕ → List ℕ → ℕ → ℕ → ℕ
hop_pairs s t failed h = count_pairs s failed (arrives_in s t failed h)

-- how many pairs are lost
abbrev pub lost_pairs : List ℕ → List ℕ → ℕ → ℕ
lost_pairs s t failed = count_pairs s failed (is_lost s t failed)

-- what a survey counts: the pairs for 1 to 8 hops, of which those for more than d are none, and the lost ones
unfoldable pub survey_counts : List ℕ → List ℕ → ℕ → List ℕ
survey_counts s t failed =
    hop_pairs s t failed 1
    ∷ hop_pairs s t failed 2
    ∷ hop_pairs s t failed 3
    ∷ hop_pairs s t failed 4
    ∷ hop_pairs s t failed 5
    ∷ hop_pairs s t failed 6
    ∷ hop_pairs s t failed 7
    ∷ hop_pairs s t failed 8
    ∷ lost_pairs s t failed
    ∷ []
