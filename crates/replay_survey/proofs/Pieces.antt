-- What was put, piece behind piece. Assumes nothing.
use Prim.Native.Nat.{ℕ, zero, suc, ◌+◌, ◌≤◌, ◌<◌}
use mathlib.Core.Path.{◌≡◌, refl, ap, subst}
use mathlib.Core.List.{List, ◌∷◌}
use native.Mathlib.Omega.{arith}
use lib.ListN.{length, take, replicate}
use lib.Seq.{length-take-le}
use borrow.Author.Tests.{eq-eqb, ne_eqb, lt-ltb, le-ltb}
use Rattle.model.specs.Loops.{join_below}
use Rattle.putting.specs.Put.{Put}
use Rattle.putting.proofs.Putting.{put_none, put_then, three_pieces, four_pieces}
use Rattle.text.specs.Ascii.{ascii}
use Rattle.text.specs.Numbers.{decimal}
use Rattle.text.specs.Lines.{labelled}
use Rattle.replay_survey.specs.SurveyText.{pairs_at, indent, marks, bar_text, count_text, hop_text, lost_text, survey_said}
use Rattle.replay_survey.specs.Showable.{Pairs}

-- ---- a count

module _ (n : ℕ) (o : List ℕ) (a : ℕ) (p : List ℕ) (e : ℕ) where
  pub three_spaces : n < 10 → Put o a (ascii "   ") p e → Put o a (indent n) p e
  unfolding indent
  three_spaces l P = rw (lt-ltb n 10 l) P

  pub two_spaces : 10 ≤ n → n < 100 → Put o a (ascii "  ") p e → Put o a (indent n) p e
  unfolding indent
  two_spaces g l P = rw (le-ltb n 10 g, lt-ltb n 100 l) P

  pub one_space : 10 ≤ n → 100 ≤ n → n < 1000 → Put o a (ascii " ") p e → Put o a (indent n) p e
  unfolding indent
  one_space g h l P = rw (le-ltb n 10 g, le-ltb n 100 h, lt-ltb n 1000 l) P

pub no_space : (n : ℕ) (o : List ℕ) (a : ℕ) → 10 ≤ n → 100 ≤ n → 1000 ≤ n → a + 3 ≤ length o → Put o a (indent n) o a
unfolding indent
no_space n o a f g h room = rw (le-ltb n 10 f, le-ltb n 100 g, le-ltb n 1000 h) (put_none o a (omega arith))

-- the first of many alike
take_alike : (n m v : ℕ) → n ≤ m → take n (replicate m v) ≡ replicate n v
take_alike zero m v l = refl
take_alike (suc n) zero v l = absurd (omega arith)
take_alike (suc n) (suc m) v l = ap (λ (vs : List ℕ). v ∷ vs) (take_alike n m v (omega arith))

-- n marks of a row of 50
abbrev pub row : ℕ → List ℕ
row n = take n (replicate 50 35)

pub row_length : (n : ℕ) → n ≤ 50 → length (row n) ≡ n
row_length n l = length-take-le n (replicate 50 35) l

pub marks_put : (n : ℕ) (o : List ℕ) (a : ℕ) (p : List ℕ) (e : ℕ) → n ≤ 50 → Put o a (row n) p e → Put o a (replicate n 35) p e
marks_put n o a p e l P = subst (λ (bs : List ℕ). Put o a bs p e) (take_alike n 50 35 l) P

module _ (count pairs : ℕ) (o : List ℕ) (a : ℕ) where
  pub bar_none : a + 51 ≤ length o → count ≡ 0 → Put o a (bar_text count pairs) o a
  unfolding bar_text
  bar_none room z = rw (eq-eqb count 0 z) (put_none o a (omega arith))

  pub bar_put : (p : List ℕ) (e : ℕ) (q : List ℕ) (g : ℕ) → (count ≡ 0 → ⊥) → Put o a (ascii " ") p e → Put p e (replicate (marks count pairs) 35) q g
      → Put o a (bar_text count pairs) q g
  unfolding bar_text
  bar_put p e q g nz P Q = rw (ne_eqb count 0 nz) (put_then o a _ p e _ q g P Q)

  pub count_put : (p : List ℕ) (e : ℕ) (q : List ℕ) (g : ℕ) (r : List ℕ) (h : ℕ) (v : List ℕ) (k : ℕ) → Put o a (indent count) p e → Put p e (decimal count) q g
      → Put q g (bar_text count pairs) r h → Put r h (ascii "\n") v k → Put o a (count_text count pairs) v k
  unfolding count_text
  count_put p e q g r h v k P Q R W = four_pieces o a _ p e _ q g P Q _ r h _ v k R W

-- ---- the lines

module _ (C : List ℕ) (pairs : ℕ) (all : Pairs C pairs) (o : List ℕ) (a : ℕ) (p : List ℕ) (e : ℕ) (q : List ℕ) (g : ℕ) where
  pub lost_put : Put o a (ascii "  lost   ") p e → Put p e (count_text (pairs_at C 8) pairs) q g → Put o a (lost_text C) q g
  unfolding lost_text
  lost_put P Q = put_then o a _ p e _ q g P (subst (λ (n : ℕ). Put p e (count_text (pairs_at C 8) n) q g) all.are Q)

  pub hop_put : (k : ℕ) (r : List ℕ) (h : ℕ) → Put o a (labelled (ascii "  hops ") (k + 1)) p e → Put p e (ascii " ") q g
      → Put q g (count_text (pairs_at C k) pairs) r h → Put o a (hop_text C k) r h
  unfolding hop_text
  hop_put k r h P Q R = three_pieces o a _ p e _ q g P Q _ r h (subst (λ (n : ℕ). Put q g (count_text (pairs_at C k) n) r h) all.are R)

  pub said_put : (d : ℕ) (r : List ℕ) (h : ℕ) (v : List ℕ) (k : ℕ) → Put o a (labelled (ascii "survey: ") pairs) p e → Put p e (ascii " pairs\n") q g
      → Put q g (join_below d (hop_text C)) r h → Put r h (lost_text C) v k → Put o a (survey_said d C) v k
  unfolding survey_said
  said_put d r h v k P Q R W =
      four_pieces o a _ p e _ q g (subst (λ (n : ℕ). Put o a (labelled (ascii "survey: ") n) p e) all.are P) Q _ r h _ v k R W
