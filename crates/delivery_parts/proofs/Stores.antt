-- What is gathered before and after a record is stored. Assumes nothing.
use Prim.Native.Nat.{ℕ}
use mathlib.Core.Path.{◌≡◌, ap}
use mathlib.Core.List.{List}
use mathlib.Core.Bool.{cond, not, ◌&&◌}
use lib.Dec.{leb, eqb}
use lib.ListN.{get_or}
use Rattle.model.specs.Memory.{Node, id_of, with_node, has_node, add_node}
use Rattle.model.specs.Join.{gather, gather_place}
use Rattle.model.proofs.Loops.{each_same}
use Rattle.model.proofs.Status.{IsNode}
use Rattle.delivery_parts.specs.Delivers.{Network}
use Rattle.delivery_parts.proofs.Readers.{suffix_same}

-- gathering reads ids and digits, which a new record for x with its id keeps
pub gather_same : (s : List ℕ) → Network s → (x : ℕ) → IsNode s x → (r : Node) → r.id ≡ id_of s x → (k notified : ℕ) (T : List ℕ) (nodes : ℕ)
    → gather (with_node s x r) x k notified T nodes ≡ gather s x k notified T nodes
unfolding gather
gather_same s n x nx r e k notified T nodes =
    each_same 512 (gather_place (with_node s x r) x k notified T) (gather_place s x k notified T) nodes
    (λ p a l.
    ap (λ (m : ℕ). cond (not (eqb (get_or T p 0) 0) && (not (eqb (get_or T p 0) x) && (leb k m && not (has_node notified (get_or T p 0))))) (add_node a (get_or T p 0)) a)
    (suffix_same s n x nx r e x (get_or T p 0)))
