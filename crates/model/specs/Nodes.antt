-- The nodes of a state, the paper's members: document 01, "Identifiers and tables". They have the numbers from 1 on, as they came. A test is
-- asked of every node, of some, or counted.
use Rattle.std.specs.Prelude.{ℕ, ◌+◌, Bool, ◌&&◌, List, leb}
use Rattle.model.specs.Loops.{all_below, any_below, count_below, sum_below, first_below, join_below, node}
use Rattle.model.specs.Ids.{common_suffix}
use Rattle.model.specs.Memory.{digits, node_count, id_of}
use Rattle.model.specs.Tables.{qualified}

-- x is the number of a node
abbrev pub is_node : List ℕ → ℕ → Bool
is_node s x = leb 1 x && leb x (node_count s)

-- the common suffix of two nodes: the paper's match
abbrev pub suffix_of : List ℕ → ℕ → ℕ → ℕ
suffix_of s x y = common_suffix (digits s) (id_of s x) (id_of s y)

-- node y is qualified for entry (i, j) of node x
abbrev pub qualifies : List ℕ → ℕ → ℕ → ℕ → ℕ → Bool
qualifies s x i j y = qualified (id_of s x) (id_of s y) i j

-- the test f holds of every node
abbrev pub all_nodes : List ℕ → (ℕ → Bool) → Bool
all_nodes s f = all_below (node_count s) (node f)

-- the test f holds of some node
abbrev pub any_node : List ℕ → (ℕ → Bool) → Bool
any_node s f = any_below (node_count s) (node f)

-- of how many nodes the test f holds
abbrev pub count_nodes : List ℕ → (ℕ → Bool) → ℕ
count_nodes s f = count_below (node_count s) (node f)

-- the sum of f 1, f 2, .., a number for each node
abbrev pub sum_nodes : List ℕ → (ℕ → ℕ) → ℕ
sum_nodes s f = sum_below (node_count s) (node f)

-- the first node of which the test f holds; a number above the nodes where there is none
abbrev pub first_node : List ℕ → (ℕ → Bool) → ℕ
first_node s f = first_below (node_count s) (node f) + 1

-- the lists f 1, f 2, .., one for each node, joined into one
abbrev pub join_nodes : List ℕ → (ℕ → List ℕ) → List ℕ
join_nodes s f = join_below (node_count s) (node f)
