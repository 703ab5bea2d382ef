-- What was put, piece behind piece. Assumes nothing.
use Prim.Native.Nat.{ℕ, ◌+◌}
use mathlib.Core.Path.{◌≡◌, sym, subst, ap₂, ◌∙◌}
use mathlib.Core.List.{List}
use native.Mathlib.Nat.{zero-add}
use lib.ListN.{length, take, drop}
use lib.Seq.{take_at}
use Rattle.putting.specs.Put.{put, Put}
use Rattle.putting.proofs.Putting.{put_then}
use Rattle.text.specs.Ascii.{ascii}
use Rattle.text.specs.Numbers.{decimal}
use Rattle.text.specs.Lines.{labelled, line}

module _ (n : ℕ) (o : List ℕ) (a : ℕ) (label p : List ℕ) (e : ℕ) (q : List ℕ) (g : ℕ) where
  pub labelled_put : Put o a label p e → Put p e (decimal n) q g → Put o a (labelled label n) q g
  unfolding labelled
  labelled_put P Q = put_then o a label p e (decimal n) q g P Q

  pub line_put : Put o a (labelled label n) p e → Put p e (ascii "\n") q g → Put o a (line label n) q g
  unfolding line
  line_put P Q = put_then o a (labelled label n) p e (ascii "\n") q g P Q

-- what is put where x is k
pub by_key : {A : Type 0} (f : A → List ℕ) (x k : A) → x ≡ k → (o : List ℕ) (a : ℕ) (p : List ℕ) (g : ℕ) → Put o a (f k) p g → Put o a (f x) p g
by_key f x k e o a p g P = subst (λ k. Put o a (f k) p g) (sym e) P

-- what was put at the start is all that stands before its end
pub put_shown : (o bs p : List ℕ) (e : ℕ) → Put o 0 bs p e → take e p ≡ bs
unfolding put
put_shown o bs p e P = ap₂ take P.ends P.is ∙ take_at bs (drop (0 + length bs) o) (0 + length bs) (sym (zero-add (length bs)))
