-- What was put, piece behind piece. Assumes nothing.
use Prim.Native.Nat.{ℕ, ◌+◌, ◌≤◌}
use mathlib.Core.Path.{◌≡◌, sym, ap₂, subst, ◌∙◌}
use mathlib.Core.List.{List, ◌++◌}
use native.Mathlib.Omega.{arith}
use lib.ListN.{length}
use borrow.Author.Tests.{eq-eqb, ne_eqb}
use Rattle.model.specs.Loops.{join_below}
use Rattle.model.specs.Memory.{base, digits, depth, table_of}
use Rattle.model.specs.Tables.{slot_at}
use Rattle.putting.specs.Put.{Put}
use Rattle.putting.proofs.Putting.{put_none, put_then, four_pieces}
use Rattle.text.specs.Ascii.{ascii}
use Rattle.text.specs.Numbers.{hexadecimal}
use Rattle.text.specs.Lines.{labelled}
use Rattle.replay_panel.specs.PanelText.{record_text}
use Rattle.replay_table.specs.TableText.{head_text, slot_text, entry_text, entries_text, table_text}

-- ---- the entries

module _ (T : List ℕ) (i j : ℕ) (o : List ℕ) (a : ℕ) where
  pub slot_none : (k : ℕ) → a + 21 ≤ length o → slot_at T i j k ≡ 0 → Put o a (slot_text T i j k) o a
  unfolding slot_text
  slot_none k f z = rw (eq-eqb (slot_at T i j k) 0 z) (put_none o a (omega arith))

  pub slot_some : (k : ℕ) (p : List ℕ) (e : ℕ) → (slot_at T i j k ≡ 0 → ⊥) → Put o a (labelled (ascii " ") (slot_at T i j k)) p e
      → Put o a (slot_text T i j k) p e
  unfolding slot_text
  slot_some k p e h P = rw (ne_eqb (slot_at T i j k) 0 h) P

  pub entry_none : (K u : ℕ) → a + 122 ≤ length o → u ≡ slot_at T i j 0 → u ≡ 0 → Put o a (entry_text K T i j) o a
  unfolding entry_text
  entry_none K u f e z = rw (eq-eqb (slot_at T i j 0) 0 (sym e ∙ z)) (put_none o a (omega arith))

  pub entry_some : (K u : ℕ) (p : List ℕ) (e : ℕ) (q : List ℕ) (g : ℕ) (r : List ℕ) (h : ℕ) (w : List ℕ) (k : ℕ)
      → u ≡ slot_at T i j 0 → (u ≡ 0 → ⊥) → Put o a (labelled (ascii "  level ") i) p e → Put p e (ascii " digit ") q g
      → Put q g (hexadecimal 1 j) r h → Put r h (ascii ":" ++ (join_below K (slot_text T i j) ++ ascii "\n")) w k → Put o a (entry_text K T i j) w k
  unfolding entry_text
  entry_some K u p e q g r h w k is nz P Q R W =
      rw (ne_eqb (slot_at T i j 0) 0 (λ z. nz (is ∙ z))) (four_pieces o a _ p e _ q g P Q _ r h _ w k R W)

-- ---- the whole

pub table_put : (s t : List ℕ) (x : ℕ) (T : List ℕ) (d b K : ℕ) (o p : List ℕ) (e : ℕ) (q : List ℕ) (g : ℕ) (r : List ℕ) (h : ℕ)
    → d ≡ digits s → b ≡ base s → K ≡ depth s → T ≡ table_of t x → Put o 0 (labelled (ascii "table ") x) p e → Put p e (record_text s x) q g
    → Put q g (entries_text d b K T) r h → Put o 0 (table_text s t x) r h
unfolding head_text table_text
table_put s t x T d b K o p e q g r h ed eb eK eT P Q R =
    put_then o 0 _ q g _ r h (put_then o 0 _ p e _ q g P Q)
    (subst (λ (bs : List ℕ). Put q g bs r h)
    (ap₂ (λ (d b : ℕ). entries_text d b K T) ed eb ∙ ap₂ (λ (K : ℕ) (T : List ℕ). entries_text (digits s) (base s) K T) eK eT) R)
