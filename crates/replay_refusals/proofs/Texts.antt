-- What was put is what is said of a refusal, by its number and the answer's next two fields. Assumes nothing.
use Prim.Native.Nat.{ℕ, ◌≤◌}
use mathlib.Core.Path.{◌≡◌}
use mathlib.Core.List.{List}
use native.Mathlib.Omega.{arith}
use lib.ListN.{length}
use borrow.Author.Tests.{eq-eqb, ne_eqb}
use Rattle.putting.specs.Put.{Put}
use Rattle.putting.proofs.Putting.{put_none, put_then, three_pieces}
use Rattle.text.specs.Ascii.{ascii}
use Rattle.text.specs.Lines.{labelled}
use Rattle.replay_refusals.specs.Refused.{sentence, path_text, place_text, refused_text}

module _ (n : ℕ) (o : List ℕ) (a : ℕ) (f : a ≤ length o) where
  pub no_place : (first second : ℕ) → first ≡ 0 → Put o a (place_text n first second) o a
  unfolding place_text
  no_place first second z = rw (eq-eqb first 0 z) (put_none o a f)

module _ (n first second : ℕ) (nz : first ≡ 0 → ⊥) (o : List ℕ) (a : ℕ) (p : List ℕ) (g : ℕ) where
  pub place_put : n ≡ 9 → Put o a (path_text (ascii ", place ") first second) p g → Put o a (place_text n first second) p g
  unfolding place_text
  place_put e P = rw (ne_eqb first 0 nz, eq-eqb n 9 e) P

  pub step_put : n ≡ 23 → Put o a (path_text (ascii ", step ") first second) p g → Put o a (place_text n first second) p g
  unfolding place_text
  step_put e P = rw (ne_eqb first 0 nz, ne_eqb n 9 (λ q. omega arith), eq-eqb n 23 e) P

  pub record_put : (n ≡ 9 → ⊥) → (n ≡ 23 → ⊥) → Put o a (labelled (ascii " at record ") first) p g → Put o a (place_text n first second) p g
  unfolding place_text
  record_put h₁ h₂ P = rw (ne_eqb first 0 nz, ne_eqb n 9 h₁, ne_eqb n 23 h₂) P

pub path_put : (label : List ℕ) (path k : ℕ) (o : List ℕ) (a : ℕ) (p : List ℕ) (g : ℕ) (q : List ℕ) (h : ℕ) → Put o a (labelled (ascii " at path ") path) p g
    → Put p g (labelled label k) q h → Put o a (path_text label path k) q h
unfolding path_text
path_put label path k o a p g q h P Q = put_then o a _ p g _ q h P Q

pub refused_put : (n first second : ℕ) (o : List ℕ) (a : ℕ) (p : List ℕ) (g : ℕ) (q : List ℕ) (h : ℕ) (r : List ℕ) (k : ℕ) (v : List ℕ) (l : ℕ)
    (y : List ℕ) (m : ℕ)
    → Put o a (labelled (ascii "refused ") n) p g → Put p g (place_text n first second) q h → Put q h (ascii ": ") r k → Put r k (sentence n first) v l
    → Put v l (ascii "\n") y m → Put o a (refused_text n first second) y m
unfolding refused_text
refused_put n first second o a p g q h r k v l y m P Q R W Y =
    three_pieces o a _ p g _ q h P Q _ y m (three_pieces q h _ r k _ v l R W _ y m Y)
