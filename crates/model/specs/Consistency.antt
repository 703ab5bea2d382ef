-- The verdict: document 01, "Lookup and verdict", second paragraph; and K-consistency: report TR-07-31, Definition 3.3.
use Rattle.std.specs.Prelude.{ℕ, ◌<◌, min, ◌≡◌, Bool, true, cond, not, List, [], eqb, length, get_or}
use Rattle.model.specs.Loops.{all_below, first_below}
use Rattle.model.specs.Memory.{base, digits, depth, table_of}
use Rattle.model.specs.Tables.{entry_size, entry}
use Rattle.model.specs.Nodes.{is_node, qualifies, all_nodes, count_nodes, first_node}

-- the paper's H: how many nodes qualify for entry (i, j) of x; x counts like any other
unfoldable pub how_many : List ℕ → ℕ → ℕ → ℕ → ℕ
how_many s x i j = count_nodes s (qualifies s x i j)

-- entry (i, j) of x holds as many nodes as there are for it, but not more than K
unfoldable pub entry_whole : List ℕ → List ℕ → ℕ → ℕ → ℕ → Bool
entry_whole s t x i j = eqb (entry_size (depth s) (table_of t x) i j) (min (depth s) (how_many s x i j))

unfoldable pub level_whole : List ℕ → List ℕ → ℕ → ℕ → Bool
level_whole s t x i = all_below (base s) (entry_whole s t x i)

unfoldable pub node_whole : List ℕ → List ℕ → ℕ → Bool
node_whole s t x = all_below (digits s) (level_whole s t x)

-- the verdict is yes: this holds of every entry of every node
unfoldable pub consistent : List ℕ → List ℕ → Bool
consistent s t = all_nodes s (node_whole s t)

-- ---- K-consistency as Definition 3.3 of the report has it; laws turn the test above into it and back (proofs/Consistency)

-- N_x(i, j): the nodes in entry (i, j) of x
abbrev pub neighbors : List ℕ → List ℕ → ℕ → ℕ → ℕ → List ℕ
neighbors s t x i j = entry (depth s) (table_of t x) i j

-- y is in V_{j·x[i−1]…x[0]}: a node whose id ends in j and then the low i digits of x
pub record HasSuffix (s : List ℕ) (x i j y : ℕ) : Type 0 where
  pub node : is_node s y ≡ true
  pub suffix : qualifies s x i j y ≡ true

-- what the definition asks of entry (i, j) of x, in two conditions
pub record EntryConsistent (s t : List ℕ) (x i j : ℕ) : Type 0 where
  -- (a) where some node has the suffix, the entry holds K nodes, or as many as have the suffix if these are fewer
  pub filled : (y : ℕ) → HasSuffix s x i j y → length (neighbors s t x i j) ≡ min (depth s) (how_many s x i j)
  -- and each of them has the suffix
  pub within : (k : ℕ) → k < length (neighbors s t x i j) → HasSuffix s x i j (get_or (neighbors s t x i j) k 0)
  -- (b) where no node has it, the entry is empty
  pub empty : ((y : ℕ) → HasSuffix s x i j y → ⊥) → neighbors s t x i j ≡ []

-- K-consistency: each entry, of a level below d and a digit below b, of each node meets the two. (That K is at least 1 is a setting in range.)
unfoldable pub KConsistent : List ℕ → List ℕ → Type 0
KConsistent s t =
    (x i j : ℕ) → is_node s x ≡ true → i < digits s → j < base s → EntryConsistent s t x i j

-- ---- the verdict

abbrev pub node_short : List ℕ → List ℕ → ℕ → Bool
node_short s t x = not (node_whole s t x)

abbrev pub level_short : List ℕ → List ℕ → ℕ → ℕ → Bool
level_short s t x i = not (level_whole s t x i)

abbrev pub entry_short : List ℕ → List ℕ → ℕ → ℕ → ℕ → Bool
entry_short s t x i j = not (entry_whole s t x i j)

-- the verdict: 1 for yes, with zeros, or 0 with the place
pub record Verdict : Type 0 where
  pub consistent : ℕ
  pub node : ℕ
  pub level : ℕ
  pub digit : ℕ

-- a no names the first entry that is not whole: the first node that has one, its first such level, and there the first such digit
unfoldable pub first_short : List ℕ → List ℕ → Verdict
first_short s t =
    let x = first_node s (node_short s t) in
    let i = first_below (digits s) (level_short s t x) in
    record { consistent = 0; node = x; level = i; digit = first_below (base s) (entry_short s t x i) }

unfoldable pub verdict : List ℕ → List ℕ → Verdict
verdict s t = cond (consistent s t) (record { consistent = 1; node = 0; level = 0; digit = 0 }) (first_short s t)
