-- A node's record as text, and the panel: a line for each node.
use Rattle.std.specs.Prelude.{ℕ, cond, List, ◌++◌, eqb}
use Rattle.model.specs.Memory.{digits, id_of, status_of, requests_of, notices_of, in_system, copying, waiting}
use Rattle.model.specs.Nodes.{join_nodes}
use Rattle.text.specs.Ascii.{ascii}
use Rattle.text.specs.Numbers.{hexadecimal}
use Rattle.text.specs.Lines.{labelled}

-- the paper's word for a status
unfoldable pub status_text : ℕ → List ℕ
status_text status =
    cond (eqb status in_system) (ascii "settled") (cond (eqb status copying) (ascii "copying") (cond (eqb status waiting) (ascii "waiting") (ascii "notifying")))

-- the copy and wait requests that a node has sent, and its notices that were answered
unfoldable pub counts_text : ℕ → ℕ → List ℕ
counts_text requests notices = labelled (ascii ", requests ") requests ++ labelled (ascii ", notices ") notices

-- what a line says of node x behind its number: its id in as many hexadecimal digits as ids have, its status and its counts
unfoldable pub record_text : List ℕ → ℕ → List ℕ
record_text s x =
    ascii ": id "
    ++ (hexadecimal (digits s) (id_of s x)
    ++ (ascii ", " ++ (status_text (status_of s x) ++ (counts_text (requests_of s x) (notices_of s x) ++ ascii "\n"))))

-- node x's line of the panel
unfoldable pub node_text : List ℕ → ℕ → List ℕ
node_text s x = labelled (ascii "node ") x ++ record_text s x

unfoldable pub panel_text : List ℕ → List ℕ
panel_text s = join_nodes s (node_text s)
