-- Laws of a list with a part replaced: `splice a n vs l` is l with the n elements from index a on replaced by the n of vs.
-- A node's record in the state and a node's table in the table memory are such parts. Assumes nothing.
use Prim.Native.Nat.{ℕ, zero, suc, ◌+◌, ◌-◌, ◌≤◌, ◌<◌}
use mathlib.Core.Path.{◌≡◌, refl, sym, ap, ap₂, subst, ◌∙◌}
use mathlib.Core.List.{List, [], ◌∷◌, ◌++◌, append_assoc}
use native.Mathlib.Decide.{dec_lt}
use native.Mathlib.Omega.{arith}
use lib.ListN.{length, get_or, set, take, drop, length-append, length-drop, take-append-drop, get_or-append}
use lib.Seq.{length-take-le, get_or-take, get_or-drop, get_or-append-add, take_at, drop_at, drop-drop, ext_get_or}

abbrev pub splice : ℕ → ℕ → List ℕ → List ℕ → List ℕ
splice a n vs l = take a l ++ (vs ++ drop (a + n) l)

-- what stands past the first of two joined lists
past : (xs ys : List ℕ) (a k : ℕ) → length xs ≡ a → get_or (xs ++ ys) (a + k) 0 ≡ get_or ys k 0
past xs ys a k e = ap (λ (m : ℕ). get_or (xs ++ ys) (m + k) 0) (sym e) ∙ get_or-append-add xs ys k 0

module _ (a n : ℕ) (vs l : List ℕ) (e : length vs ≡ n) (fits : a + n ≤ length l) where
  front : length (take a l) ≡ a
  front = length-take-le a l (omega arith)

  pub splice_length : length (splice a n vs l) ≡ length l
  splice_length = simp (length-append, length-drop, front) (omega arith)

  -- before the part
  pub splice_before : (p : ℕ) → p < a → get_or (splice a n vs l) p 0 ≡ get_or l p 0
  splice_before p h =
      get_or-append (take a l) (vs ++ drop (a + n) l) 0 p (omega (arith, front)) ∙ get_or-take a l p 0 h

  -- in the part
  pub splice_at : (k : ℕ) → k < n → get_or (splice a n vs l) (a + k) 0 ≡ get_or vs k 0
  splice_at k h =
      past (take a l) (vs ++ drop (a + n) l) a k front ∙ get_or-append vs (drop (a + n) l) 0 k (omega arith)

  -- past the part
  pub splice_after : (p : ℕ) → a + n ≤ p → get_or (splice a n vs l) p 0 ≡ get_or l p 0
  splice_after p h =
      let q : ℕ = p - (a + n) in
      let w : p ≡ a + (n + q) = omega arith in
      let w' : p ≡ a + n + q = omega arith in
      ap (λ (m : ℕ). get_or (splice a n vs l) m 0) w
      ∙ past (take a l) (vs ++ drop (a + n) l) a (n + q) front
      ∙ past vs (drop (a + n) l) n q e
      ∙ get_or-drop (a + n) l q 0
      ∙ ap (λ (m : ℕ). get_or l m 0) (sym w')

  -- replaced once more: the second part is what stays
  pub splice_twice : (us : List ℕ) → splice a n us (splice a n vs l) ≡ splice a n us l
  splice_twice us =
      ap₂ (λ (p q : List ℕ). p ++ (us ++ q)) (take_at (take a l) (vs ++ drop (a + n) l) a front)
      (ap (drop (a + n)) (sym (append_assoc (take a l) vs (drop (a + n) l)))
      ∙ drop_at (take a l ++ vs) (drop (a + n) l) (a + n) (length-append (take a l) vs ∙ ap₂ ◌+◌ front e))

-- two lists that have the same at a place have the same there with the same part
pub splice_both : (a n : ℕ) (vs l m : List ℕ) → length vs ≡ n → a + n ≤ length l → a + n ≤ length m → (p : ℕ) → get_or l p 0 ≡ get_or m p 0
    → get_or (splice a n vs l) p 0 ≡ get_or (splice a n vs m) p 0
splice_both a n vs l m e f g p q = go (dec_lt p a) (dec_lt p (a + n))
  where
    go : Dec (p < a) → Dec (p < a + n) → get_or (splice a n vs l) p 0 ≡ get_or (splice a n vs m) p 0
    go (yes h) k = splice_before a n vs l e f p h ∙ q ∙ sym (splice_before a n vs m e g p h)
    go (no h) (yes k) =
        let w : a + (p - a) ≡ p = omega arith in
        subst (λ (p : ℕ). get_or (splice a n vs l) p 0 ≡ get_or (splice a n vs m) p 0) w
        (splice_at a n vs l e f (p - a) (omega arith) ∙ sym (splice_at a n vs m e g (p - a) (omega arith)))
    go (no h) (no k) = splice_after a n vs l e f p (omega arith) ∙ q ∙ sym (splice_after a n vs m e g p (omega arith))

-- a part put back as it was changes nothing
pub splice_back : (a n : ℕ) (l : List ℕ) → splice a n (take n (drop a l)) l ≡ l
splice_back a n l =
    ap (λ (q : List ℕ). take a l ++ (take n (drop a l) ++ q)) (sym (drop-drop n a l))
    ∙ ap (λ (q : List ℕ). take a l ++ q) (take-append-drop n (drop a l))
    ∙ take-append-drop a l

-- the part of a list from index a on, n long
module _ (a n : ℕ) (l : List ℕ) (fits : a + n ≤ length l) where
  pub part_length : length (take n (drop a l)) ≡ n
  part_length = length-take-le n (drop a l) (simp length-drop (omega arith))

  pub part_at : (k : ℕ) → k < n → get_or (take n (drop a l)) k 0 ≡ get_or l (a + k) 0
  part_at k h = get_or-take n (drop a l) k 0 h ∙ get_or-drop a l k 0

-- two lists that agree on such a part have the same part
pub part_same : (a n : ℕ) (l m : List ℕ) → a + n ≤ length l → a + n ≤ length m
    → ((k : ℕ) → k < n → get_or l (a + k) 0 ≡ get_or m (a + k) 0) → take n (drop a l) ≡ take n (drop a m)
part_same a n l m f g h =
    ext_get_or 0 (take n (drop a l)) (take n (drop a m)) (part_length a n l f ∙ sym (part_length a n m g))
    (λ k q. let q' : k < n = omega (arith, part_length a n l f) in part_at a n l f k q' ∙ h k q' ∙ sym (part_at a n m g k q'))

-- ---- one element replaced

-- what holds of an element, and of what is stored if it is stored there, holds of it after
pub set_keeps : (P : ℕ → Type 0) (l : List ℕ) (q u p : ℕ) → P (get_or l p 0) → (p ≡ q → P u) → P (get_or (set l q u) p 0)
set_keeps P [] q u p f g = f
set_keeps P (w ∷ ws) zero u zero f g = g refl
set_keeps P (w ∷ ws) zero u (suc p) f g = f
set_keeps P (w ∷ ws) (suc q) u zero f g = f
set_keeps P (w ∷ ws) (suc q) u (suc p) f g = set_keeps P ws q u p f (λ e. g (ap suc e))
