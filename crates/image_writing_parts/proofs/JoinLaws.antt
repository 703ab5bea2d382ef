-- Laws of putting the join of a node: its numbers fit a byte each; nothing for a node in system, else 20 bytes. Assumes nothing.
use Prim.Native.Nat.{ℕ, ◌+◌, ◌≤◌, ◌<◌}
use mathlib.Core.Path.{◌≡◌, sym, ap, subst, ◌∙◌}
use mathlib.Core.List.{List, [], ◌∷◌}
use native.Mathlib.Omega.{arith}
use lib.ListN.{length}
use Rattle.model.specs.Memory as memory
use Rattle.model.specs.Memory.{node_of, status_of, level_of, target_of, in_system}
use Rattle.model.specs.Image.{eight_bytes, join_fields, join_bytes}
use Rattle.model.proofs.Status.{IsNode, StatusOk, ok_in_system, ok_copying, ok_waiting, ok_notifying}
use Rattle.model.proofs.RequestBound.{requests_most, notices_most}
use Rattle.model.proofs.Sound.{Sound}
use Rattle.state.specs.Loaded.{book_node}
use Rattle.state.specs.declared.record.Node.{Node}
use Rattle.putting.specs.Put.{Put}
use Rattle.putting.proofs.Putting.{three_pieces}
use Rattle.image_writing_parts.specs.Joins.{Bytes}
use Rattle.image_writing_parts.proofs.Unless.{unless_none, unless_room, unless_some}

-- in a sound state the status is at most 3, the level below 8, the target at most 64, and the counts are at most 9 and 62
bytes_of : (s t : List ℕ) → Sound s t → (x : ℕ) → IsNode s x → Bytes (node_of s x)
bytes_of s t S x n = go (S.statuses x n)
  where
    bytes : status_of s x < 256 → level_of s x < 256 → target_of s x < 256 → Bytes (node_of s x)
    bytes status level target = record {
      status = status;
      level = level;
      target = target;
      requests = omega (arith, S.settings.digits_most, requests_most s t S x n);
      notices = omega (arith, notices_most s t S x n);
    }

    go : StatusOk s x → Bytes (node_of s x)
    go (ok_in_system e r) = bytes (omega arith) (omega (arith, r.level)) (omega (arith, r.target))
    go (ok_copying e r) = bytes (omega arith) (omega (arith, r.rest.level)) (omega (arith, r.is_node.high, S.few))
    go (ok_waiting e r) = bytes (omega arith) (omega (arith, r.rest.level)) (omega (arith, r.is_node.high, S.few))
    go (ok_notifying e r) = bytes (omega arith) (omega (arith, r.level, S.settings.digits_most)) (omega (arith, r.target))

module _ (s : List ℕ) (x : ℕ) (r : Node) (e : book_node r ≡ node_of s x) where
  pub node_bytes : (t : List ℕ) → Sound s t → IsNode s x → Bytes (book_node r)
  node_bytes t S n = subst Bytes (sym e) (bytes_of s t S x n)

  module _ (t : List ℕ) (S : Sound s t) (n : IsNode s x) where
    pub requests_byte : r.requests < 256
    requests_byte = (node_bytes t S n).requests

    pub notices_byte : r.notices < 256
    notices_byte = (node_bytes t S n).notices

  -- its join, where it is in system and where not
  status : status_of s x ≡ r.status
  status = ap (λ (r : memory.Node). r.status) (sym e)

  module _ (o : List ℕ) (a : ℕ) where
    pub join_none : a + length (join_bytes s x) ≤ length o → r.status ≡ in_system → Put o a (join_bytes s x) o a
    unfolding join_bytes
    join_none f q = unless_none (status_of s x) _ o a f (status ∙ q)

    pub join_room : a + length (join_bytes s x) ≤ length o → (r.status ≡ in_system → ⊥) → a + 20 ≤ length o
    unfolding join_bytes join_fields
    join_room f h = unless_room (status_of s x) _ o a f (λ q. h (sym status ∙ q))

    pub join_some : (p : List ℕ) (g : ℕ) → (r.status ≡ in_system → ⊥) → Put o a (join_fields x (book_node r)) p g → Put o a (join_bytes s x) p g
    unfolding join_bytes
    join_some p g h P =
        unless_some (status_of s x) (join_fields x (node_of s x)) o a p g (λ q. h (sym status ∙ q))
        (subst (λ (r : memory.Node). Put o a (join_fields x r) p g) e P)

-- the bytes of a join, piece by piece
module _ (o : List ℕ) (a : ℕ) (p : List ℕ) (e : ℕ) (q : List ℕ) (g : ℕ) where
  pub fields_put : (x : ℕ) (r : memory.Node) (z : List ℕ) (h : ℕ) → Put o a (x ∷ r.status ∷ r.level ∷ r.target ∷ []) p e
      → Put p e (eight_bytes r.pending) q g → Put q g (eight_bytes r.notified) z h → Put o a (join_fields x r) z h
  unfolding join_fields
  fields_put x r z h P Q =
      three_pieces o a (x ∷ r.status ∷ r.level ∷ r.target ∷ []) p e (eight_bytes r.pending) q g P Q (eight_bytes r.notified) z h

-- what a cast of a count is closed by
pub ruleset count_bytes = (requests_byte, notices_byte)
