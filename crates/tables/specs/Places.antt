-- Where entries and tables stand, so that they can be read: what the functions over one node's table ask of their callers. T is the table
-- of one node, t the table memory.
use Rattle.std.specs.Prelude.{ℕ, ◌≤◌, ◌<◌, List, length}
use Rattle.model.specs.Memory.{table_of, tables_length}
use Rattle.model.specs.Tables.{slot_at, entry_size}

-- entry (i, j) of depth K stands in T
pub record Entry (T : List ℕ) (K i j : ℕ) : Type 0 where
  pub long : 512 ≤ length T
  pub depth : K ≤ 4
  pub level : i < 8
  pub digit : j < 16

-- its slots hold numbers that nodes can have, or 0
abbrev pub Numbers : List ℕ → ℕ → ℕ → ℕ → Type 0
Numbers T K i j = (k : ℕ) → k < K → slot_at T i j k ≤ 64

-- x's table stands in t
pub record Lent (t : List ℕ) (x : ℕ) : Type 0 where
  pub long : tables_length ≤ length t
  pub first : 1 ≤ x
  pub last : x ≤ 64

-- u can be appended to entry (i, j) of node x in t
pub record Appends (t : List ℕ) (K x i j u : ℕ) : Type 0 where
  pub long : tables_length ≤ length t
  pub first : 1 ≤ x
  pub last : x ≤ 64
  pub level : i < 8
  pub digit : j < 16
  pub deep : K ≤ 4
  pub room : entry_size K (table_of t x) i j < K
  pub byte : u < 256
