-- What was put, piece behind piece. Assumes nothing.
use Prim.Native.Nat.{ℕ, ◌+◌, ◌^◌, ◌≤◌, ◌<◌}
use mathlib.Core.Path.{◌≡◌, ap, ap₂, subst}
use mathlib.Core.List.{List, ◌++◌}
use native.Mathlib.Omega.{arith}
use Rattle.model.specs.Loops.{join_below, node}
use Rattle.model.specs.Memory as memory
use Rattle.model.specs.Memory.{base, digits, node_count, id_of, node_of}
use Rattle.model.proofs.Ids.{valid_lt}
use Rattle.model.proofs.Status.{IsNode}
use Rattle.model.proofs.Sound.{Sound}
use Rattle.state.specs.Loaded.{book_node}
use Rattle.state.specs.declared.record.Node.{Node}
use Rattle.putting.specs.Put.{Put}
use Rattle.putting.proofs.Putting.{put_then, three_pieces, pieces_none, pieces_goes, pieces_ends}
use Rattle.text.specs.Ascii.{ascii}
use Rattle.text.specs.Numbers.{hexadecimal}
use Rattle.text.specs.Lines.{labelled}
use Rattle.replay_panel.specs.PanelText.{status_text, counts_text, record_text, node_text, panel_text}

-- ---- a line

module _ (o : List ℕ) (a : ℕ) (p : List ℕ) (e : ℕ) (q : List ℕ) (g : ℕ) where
  pub counts_put : (requests notices : ℕ) → Put o a (labelled (ascii ", requests ") requests) p e → Put p e (labelled (ascii ", notices ") notices) q g
      → Put o a (counts_text requests notices) q g
  unfolding counts_text
  counts_put requests notices P Q = put_then o a _ p e _ q g P Q

  -- n is the record that the code has loaded
  pub record_put : (s : List ℕ) (x : ℕ) (n : Node) (d : ℕ) (r : List ℕ) (h : ℕ) → book_node n ≡ node_of s x → d ≡ digits s
      → Put o a (ascii ": id ") p e → Put p e (hexadecimal d n.id) q g
      → Put q g (ascii ", " ++ (status_text n.status ++ (counts_text n.requests n.notices ++ ascii "\n"))) r h → Put o a (record_text s x) r h
  unfolding record_text
  record_put s x n d r h en ed P Q R =
      three_pieces o a _ p e _ q g P
      (subst (λ (bs : List ℕ). Put p e bs q g) (ap₂ (λ (d : ℕ) (v : memory.Node). hexadecimal d v.id) ed en) Q) _ r h
      (subst (λ (bs : List ℕ). Put q g bs r h)
      (ap (λ (v : memory.Node). ascii ", " ++ (status_text v.status ++ (counts_text v.requests v.notices ++ ascii "\n"))) en) R)

  pub node_put : (s : List ℕ) (x : ℕ) → Put o a (labelled (ascii "node ") x) p e → Put p e (record_text s x) q g → Put o a (node_text s x) q g
  unfolding node_text
  node_put s x P Q = put_then o a _ p e _ q g P Q

-- the id has no more digits than the line shows
pub id_short : (s t : List ℕ) (x : ℕ) (n : Node) (d : ℕ) → Sound s t → IsNode s x → book_node n ≡ node_of s x → d ≡ digits s → n.id < 16 ^ d
id_short s t x n d S is e f = rw (ap (λ (v : memory.Node). v.id) e, f) (valid_lt (base s) (digits s) (id_of s x) (S.ids x is))

-- ---- the panel

module _ (s o : List ℕ) where
  pub panel_none : Put o 0 (join_below 0 (node (node_text s))) o 0
  panel_none = pieces_none (node (node_text s)) o 0 (omega arith)

  pub panel_goes : (k : ℕ) (p : List ℕ) (e : ℕ) (q : List ℕ) (g : ℕ) → Put o 0 (join_below k (node (node_text s))) p e → Put p e (node_text s (k + 1)) q g
      → Put o 0 (join_below (k + 1) (node (node_text s))) q g
  panel_goes k p e q g P Q = pieces_goes (node (node_text s)) o 0 k p e q g P Q

  pub panel_ends : (n k : ℕ) (p : List ℕ) (e : ℕ) → Put o 0 (join_below k (node (node_text s))) p e → n ≡ node_count s → k ≤ n → n ≤ k
      → Put o 0 (panel_text s) p e
  unfolding panel_text
  panel_ends n k p e P en l g = pieces_ends (node (node_text s)) o 0 (node_count s) k p e P (omega arith) (omega arith)
