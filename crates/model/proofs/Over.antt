-- Memory of which the first places are those of one list and the rest those of another. Assumes nothing.
use Prim.Native.Nat.{ℕ, suc, ◌+◌, ◌-◌, ◌≤◌, ◌<◌}
use mathlib.Core.Path.{◌≡◌, sym, ap, ◌∙◌}
use mathlib.Core.List.{List, [], ◌∷◌, ◌++◌, append_assoc}
use native.Mathlib.Decide.{dec_lt}
use native.Mathlib.Omega.{arith}
use lib.ListN.{length, get_or, set, take, drop, replicate, length-append, length-drop, length-replicate, get_or-append}
use lib.Seq.{length-take-le, get_or-take, get_or-drop, get_or-append-add, take-suc, drop-cons, set_at, ext_get_or}
use Rattle.model.specs.Memory.{zeroed}

-- the first n places of a, then the places of b
abbrev pub over : ℕ → List ℕ → List ℕ → List ℕ
over n a b = take n a ++ drop n b

module _ (n : ℕ) (a b : List ℕ) (fa : n ≤ length a) (fb : n ≤ length b) where
  front : length (take n a) ≡ n
  front = length-take-le n a fa

  pub over_length : length (over n a b) ≡ length b
  over_length = length-append (take n a) (drop n b) ∙ omega (arith, front, length-drop n b)

  pub over_low : (p : ℕ) → p < n → get_or (over n a b) p 0 ≡ get_or a p 0
  over_low p h = get_or-append (take n a) (drop n b) 0 p (omega (arith, front)) ∙ get_or-take n a p 0 h

  pub over_high : (p : ℕ) → n ≤ p → get_or (over n a b) p 0 ≡ get_or b p 0
  over_high p h =
      let w : p ≡ n + (p - n) = omega arith in
      ap (λ (p : ℕ). get_or (over n a b) p 0) w
      ∙ ap (λ (m : ℕ). get_or (take n a ++ drop n b) (m + (p - n)) 0) (sym front)
      ∙ get_or-append-add (take n a) (drop n b) (p - n) 0
      ∙ get_or-drop n b (p - n) 0
      ∙ ap (λ (p : ℕ). get_or b p 0) (sym w)

  -- a list that is a up to n and b from there on
  pub over_is : (l : List ℕ) → length l ≡ length b → ((p : ℕ) → p < n → get_or l p 0 ≡ get_or a p 0) → ((p : ℕ) → n ≤ p → get_or l p 0 ≡ get_or b p 0)
      → l ≡ over n a b
  over_is l e low high =
      ext_get_or 0 l (over n a b) (e ∙ sym over_length) (λ p h. go p (dec_lt p n))
    where
      go : (p : ℕ) → Dec (p < n) → get_or l p 0 ≡ get_or (over n a b) p 0
      go p (yes h) = low p h ∙ sym (over_low p h)
      go p (no g) = let h : n ≤ p = omega arith in high p h ∙ sym (over_high p h)

-- one place more
module _ (n : ℕ) (a b : List ℕ) (fa : n < length a) (fb : n < length b) where
  more : over (suc n) a b ≡ take n a ++ (get_or a n 0 ∷ drop (suc n) b)
  more =
      ap (λ (l : List ℕ). l ++ drop (suc n) b) (take-suc a n 0 fa) ∙ append_assoc (take n a) (get_or a n 0 ∷ []) (drop (suc n) b)

  split : over n a b ≡ take n a ++ (get_or b n 0 ∷ drop (suc n) b)
  split = ap (λ (l : List ℕ). take n a ++ l) (drop-cons b n 0 fb)

  pub over_set : set (over n a b) n (get_or a n 0) ≡ over (suc n) a b
  over_set =
      ap (λ (l : List ℕ). set l n (get_or a n 0)) split
      ∙ set_at (take n a) (get_or b n 0) (drop (suc n) b) (get_or a n 0) n (length-take-le n a (omega arith))
      ∙ sym more

  pub over_same : get_or a n 0 ≡ get_or b n 0 → over n a b ≡ over (suc n) a b
  over_same e = split ∙ ap (λ (v : ℕ). take n a ++ (v ∷ drop (suc n) b)) (sym e) ∙ sym more

-- memory with zeros in its fixed length is as it was past it
pub zeroed_past : (n : ℕ) (l : List ℕ) (p : ℕ) → n ≤ p → get_or (zeroed n l) p 0 ≡ get_or l p 0
zeroed_past n l p h =
    let w : p ≡ n + (p - n) = omega arith in
    ap (λ (p : ℕ). get_or (zeroed n l) p 0) w
    ∙ ap (λ (m : ℕ). get_or (zeroed n l) (m + (p - n)) 0) (sym (length-replicate {A = ℕ} n 0))
    ∙ get_or-append-add (replicate n 0) (drop n l) (p - n) 0
    ∙ get_or-drop n l (p - n) 0
    ∙ ap (λ (p : ℕ). get_or l p 0) (sym w)
