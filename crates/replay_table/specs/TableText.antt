-- A node's record and table as text: a line of its record, then one for each entry that is not empty.
use Rattle.std.specs.Prelude.{ℕ, cond, List, [], ◌++◌, eqb}
use Rattle.model.specs.Loops.{join_below}
use Rattle.model.specs.Memory.{base, digits, depth, table_of}
use Rattle.model.specs.Tables.{slot_at}
use Rattle.text.specs.Ascii.{ascii}
use Rattle.text.specs.Numbers.{hexadecimal}
use Rattle.text.specs.Lines.{labelled}
use Rattle.replay_panel.specs.PanelText.{record_text}

-- the first line: node x and its record
unfoldable pub head_text : List ℕ → ℕ → List ℕ
head_text s x = labelled (ascii "table ") x ++ record_text s x

-- the neighbour in slot k of entry (i, j); nothing where the slot is empty
unfoldable pub slot_text : List ℕ → ℕ → ℕ → ℕ → List ℕ
slot_text T i j k = cond (eqb (slot_at T i j k) 0) [] (labelled (ascii " ") (slot_at T i j k))

-- entry (i, j) of depth K with its neighbours in slot order; nothing for an empty entry
unfoldable pub entry_text : ℕ → List ℕ → ℕ → ℕ → List ℕ
entry_text K T i j =
    cond (eqb (slot_at T i j 0) 0) []
    (labelled (ascii "  level ") i ++ (ascii " digit " ++ (hexadecimal 1 j ++ (ascii ":" ++ (join_below K (slot_text T i j) ++ ascii "\n")))))

-- the entries of level i, by rising digit
unfoldable pub level_text : ℕ → ℕ → List ℕ → ℕ → List ℕ
level_text b K T i = join_below b (entry_text K T i)

-- the entries of table T, by rising level
unfoldable pub entries_text : ℕ → ℕ → ℕ → List ℕ → List ℕ
entries_text d b K T = join_below d (level_text b K T)

unfoldable pub table_text : List ℕ → List ℕ → ℕ → List ℕ
table_text s t x = head_text s x ++ entries_text (digits s) (base s) (depth s) (table_of t x)
