-- Laws of texts: the same text, no text, a part of a text. Assumes nothing.
use Prim.Native.Nat.{ℕ}
use mathlib.Core.Path.{◌≡◌, refl, ap, ◌∙◌}
use mathlib.Core.Bool.{Bool, ◌&&◌}
use mathlib.Core.List.{List, [], ◌∷◌}
use lib.Dec.{eqb, eqb-suc-zero}
use lib.ListN.{length}
use lib.Pointwise.{pointwise}
use Rattle.script.specs.Words.{first_word, is_empty, same_text, starts}

-- ---- the same text

-- by what `==` at two slices ensures
same_is : (s t : List ℕ) → pointwise eqb s t ≡ same_text s t
unfolding same_text
same_is [] [] = refl
same_is [] (b ∷ t) = refl
same_is (a ∷ s) [] = refl
same_is (a ∷ s) (b ∷ t) = ap (λ (r : Bool). eqb a b && r) (same_is s t)

pub starts_is : (text name w : List ℕ) (r : Bool) → w ≡ first_word text → r ≡ pointwise eqb w name → r ≡ starts text name
unfolding starts
starts_is text name w r q h = h ∙ (same_is w name ∙ ap (λ (v : List ℕ). same_text v name) q)

-- ---- no text

pub empty_is : (s : List ℕ) → eqb (length s) 0 ≡ is_empty s
unfolding is_empty
empty_is [] = refl
empty_is (b ∷ s) = eqb-suc-zero (length s)
