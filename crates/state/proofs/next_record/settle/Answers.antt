-- `settle`: the branch is the book's test of a notifying node. Assumes nothing.
use mathlib.Core.Path.{◌≡◌, sym, ◌∙◌}
use mathlib.Core.Bool.{Bool, true, false}
use lib.Dec.{eqb}
use Rattle.model.specs.Memory.{notifying}
use Rattle.model.specs.Join.{in_system_node, settle}
use Rattle.model.proofs.Settling.{settle_is}
use Rattle.state.specs.declared.record.Node.{Node}
use Rattle.state.specs.Loaded.{book_node}
use Rattle.state.proofs.next_record.settle.Goals as goal

settles : (r n : Node) (b : Bool) → r.status ≡ notifying → b ≡ eqb r.pending 0 → b ≡ true → book_node n ≡ in_system_node (book_node r)
    → book_node n ≡ settle (book_node r)
settles r n b e q t f = f ∙ sym (settle_is (book_node r) e true (sym q ∙ t))

stays : (r : Node) (b : Bool) → r.status ≡ notifying → b ≡ eqb r.pending 0 → b ≡ false → book_node r ≡ settle (book_node r)
stays r b e q t = sym (settle_is (book_node r) e false (sym q ∙ t))

pub returns-then-is_empty : goal.returns-then-is_empty
returns-then-is_empty c = search settles

pub returns : goal.returns
returns c = search stays
