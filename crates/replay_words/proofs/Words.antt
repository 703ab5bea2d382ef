-- What was put is what is said, piece behind piece. Assumes nothing.
use Prim.Native.Nat.{ℕ}
use mathlib.Core.Path.{◌≡◌}
use mathlib.Core.List.{List, [], ◌∷◌}
use borrow.Author.Tests.{eq-eqb, ne_eqb}
use Rattle.putting.specs.Put.{Put}
use Rattle.putting.proofs.Putting.{put_then}
use Rattle.text.specs.Ascii.{ascii}
use Rattle.text.specs.Lines.{labelled}
use Rattle.replay_entries.specs.EntryText.{place_text}
use Rattle.replay_words.specs.Said.{bytes_text, kind_text, settled_text, deliver_text, end_text, count_text, hops_text, lookup_text, short_text}

module _ (n : ℕ) (o : List ℕ) (a : ℕ) (p : List ℕ) (g : ℕ) (q : List ℕ) (h : ℕ) where
  pub bytes_put : (label : List ℕ) → Put o a (labelled label n) p g → Put p g (ascii " bytes\n") q h → Put o a (bytes_text label n) q h
  unfolding bytes_text
  bytes_put label P Q = put_then o a _ p g _ q h P Q

  module _ (label one many : List ℕ) where
    pub one_put : n ≡ 1 → Put o a (labelled label n) p g → Put p g one q h → Put o a (count_text label n one many) q h
    unfolding count_text
    one_put e P Q = rw (eq-eqb n 1 e) (put_then o a _ p g _ q h P Q)

    pub many_put : (n ≡ 1 → ⊥) → Put o a (labelled label n) p g → Put p g many q h → Put o a (count_text label n one many) q h
    unfolding count_text
    many_put e P Q = rw (ne_eqb n 1 e) (put_then o a _ p g _ q h P Q)

module _ (o : List ℕ) (a : ℕ) (p : List ℕ) (g : ℕ) (q : List ℕ) (h : ℕ) where
  pub delivered_put : (kind level settled : ℕ) → Put o a (kind_text kind level) p g → Put p g (settled_text settled) q h
      → Put o a (deliver_text (0 ∷ kind ∷ level ∷ settled ∷ [])) q h
  unfolding deliver_text
  delivered_put kind level settled P Q = put_then o a _ p g _ q h P Q

  pub looked_up_put : (arrived hops last : ℕ) → Put o a (labelled (end_text arrived) last) p g → Put p g (hops_text hops) q h
      → Put o a (lookup_text (0 ∷ arrived ∷ hops ∷ last ∷ [])) q h
  unfolding lookup_text
  looked_up_put arrived hops last P Q = put_then o a _ p g _ q h P Q

  pub short_put : (x i j : ℕ) → Put o a (place_text (ascii "verdict: node ") x i j) p g → Put p g (ascii " falls short\n") q h → Put o a (short_text x i j) q h
  unfolding short_text
  short_put x i j P Q = put_then o a _ p g _ q h P Q
