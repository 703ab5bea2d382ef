-- Filling short tables: document 02, ticket 10. Entry by entry in the order of an image, the lowest-numbered absent node is appended until the entry holds
-- what it must, and each addition is listed.
use Rattle.std.specs.Prelude.{ℕ, ◌+◌, ◌-◌, ◌*◌, ◌/◌, min, Bool, cond, not, ◌&&◌, List, [], ◌∷◌, ◌++◌, length, get_or, eqb}
use Rattle.model.specs.Loops.{each_below, join_below, node}
use Rattle.model.specs.Memory.{base, digits, depth, node_count, table_of, with_table}
use Rattle.model.specs.Tables.{entry_size, holds, append}
use Rattle.model.specs.Nodes.{qualifies, first_node}
use Rattle.model.specs.Consistency.{how_many}

-- node y qualifies for entry (i, j) of x and does not stand in it
unfoldable pub is_absent : List ℕ → List ℕ → ℕ → ℕ → ℕ → ℕ → Bool
is_absent s t x i j y = qualifies s x i j y && not (holds (depth s) (table_of t x) i j y)

-- the lowest-numbered of these
unfoldable pub lowest_absent : List ℕ → List ℕ → ℕ → ℕ → ℕ → ℕ
lowest_absent s t x i j = first_node s (is_absent s t x i j)

-- how many nodes the entry is short of what it must hold
unfoldable pub short_by : List ℕ → List ℕ → ℕ → ℕ → ℕ → ℕ
short_by s t x i j = min (depth s) (how_many s x i j) - entry_size (depth s) (table_of t x) i j

-- the table memory, filled so far, and the list of what was added to it: a record of four bytes for each addition, as an image has them
pub record Filling : Type 0 where
  pub tables : List ℕ
  pub list : List ℕ

-- the node y added to entry (i, j) of x
unfoldable pub added : List ℕ → ℕ → ℕ → ℕ → ℕ → Filling → Filling
added s x i j y f =
    record {
      tables = with_table f.tables x (append (depth s) (table_of f.tables x) i j y);
      list = f.list ++ (x ∷ i ∷ j ∷ y ∷ []);
    }

-- one addition to the entry; which one in turn, k, decides nothing
unfoldable pub fill_once : List ℕ → ℕ → ℕ → ℕ → ℕ → Filling → Filling
fill_once s x i j k f = added s x i j (lowest_absent s f.tables x i j) f

-- as many as the entry is short
unfoldable pub fill_entry : List ℕ → ℕ → ℕ → ℕ → Filling → Filling
fill_entry s x i j f = each_below (short_by s f.tables x i j) (fill_once s x i j) f

unfoldable pub fill_level : List ℕ → ℕ → ℕ → Filling → Filling
fill_level s x i f = each_below (base s) (fill_entry s x i) f

unfoldable pub fill_node : List ℕ → ℕ → Filling → Filling
fill_node s x f = each_below (digits s) (fill_level s x) f

-- every entry of every node
unfoldable pub filling : List ℕ → List ℕ → Filling
filling s t = each_below (node_count s) (node (fill_node s)) (record { tables = t; list = [] })

-- ---- records appended to their entries (what the ticket says of the result; filling itself does not go by this)

-- record r of a list, counted from 0: its neighbour appended to its entry; K is the depth
unfoldable pub with_record : ℕ → List ℕ → ℕ → List ℕ → List ℕ
with_record K list r t =
    let x = get_or list (4 * r) 0 in
    with_table t x (append K (table_of t x) (get_or list (4 * r + 1) 0) (get_or list (4 * r + 2) 0) (get_or list (4 * r + 3) 0))

-- one record after another
unfoldable pub with_records : ℕ → List ℕ → List ℕ → List ℕ
with_records K list t = each_below (length list / 4) (with_record K list) t

-- the neighbour of record r, where that is of entry (i, j) of x
unfoldable pub listed_at : List ℕ → ℕ → ℕ → ℕ → ℕ → List ℕ
listed_at list x i j r =
    cond (eqb (get_or list (4 * r) 0) x && (eqb (get_or list (4 * r + 1) 0) i && eqb (get_or list (4 * r + 2) 0) j)) (get_or list (4 * r + 3) 0 ∷ []) []

-- the neighbours of the records of entry (i, j) of x, in their order
unfoldable pub listed_for : List ℕ → ℕ → ℕ → ℕ → List ℕ
listed_for list x i j = join_below (length list / 4) (listed_at list x i j)
