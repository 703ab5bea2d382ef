-- Laws of putting bytes one piece behind another, and of the loops that put a list of pieces. Assumes nothing.
use Prim.Native.Nat.{ℕ, ◌+◌, ◌-◌, ◌≤◌, ◌<◌}
use mathlib.Core.Path.{◌≡◌, refl, sym, ap, ap₂, subst, ◌∙◌}
use mathlib.Core.List.{List, [], ◌++◌, append_assoc, append-nil}
use native.Mathlib.Nat.{add-zero, add-sub_cancel_left, le_antisymm}
use native.Mathlib.Omega.{arith}
use lib.ListN.{length, take, drop, length-append, length-drop, take-append-drop}
use lib.Seq.{length-take-le, take_at, drop_at, take-append-le, take-take, drop-drop}
use Rattle.model.specs.Loops.{join_below, node}
use Rattle.model.proofs.Loops.{join_step}
use Rattle.model.proofs.Counting.{join_grows}
use Rattle.putting.specs.Put.{put, Put}

-- ---- one piece

module _ (o : List ℕ) (a : ℕ) (bs : List ℕ) (f : a + length bs ≤ length o) where
  front : length (take a o) ≡ a
  front = length-take-le a o (omega arith)

  put_length : length (put o a bs) ≡ length o
  unfolding put
  put_length = simp (length-append, length-drop, front) (omega arith)

  head_length : length (take a o ++ bs) ≡ a + length bs
  head_length = length-append (take a o) bs ∙ ap (λ (n : ℕ). n + length bs) front

  -- bytes behind it
  put_put : (cs : List ℕ) → put (put o a bs) (a + length bs) cs ≡ put o a (bs ++ cs)
  unfolding put
  put_put cs =
      let e : a + length bs + length cs ≡ a + length (bs ++ cs) = omega (arith, length-append bs cs) in
      let whole : put o a bs ≡ (take a o ++ bs) ++ drop (a + length bs) o = sym (append_assoc (take a o) bs (drop (a + length bs) o)) in
      let before : take (a + length bs) (put o a bs) ≡ take a o ++ bs =
      ap (take (a + length bs)) whole ∙ take_at (take a o ++ bs) (drop (a + length bs) o) (a + length bs) head_length in
      let after : drop (a + length bs + length cs) (put o a bs) ≡ drop (a + length (bs ++ cs)) o =
      sym (drop-drop (length cs) (a + length bs) (put o a bs))
      ∙ ap (λ (l : List ℕ). drop (length cs) (drop (a + length bs) l)) whole
      ∙ ap (drop (length cs)) (drop_at (take a o ++ bs) (drop (a + length bs) o) (a + length bs) head_length)
      ∙ drop-drop (length cs) (a + length bs) o
      ∙ ap (λ (n : ℕ). drop n o) e in
      ap₂ (λ (l r : List ℕ). l ++ (cs ++ r)) before after
      ∙ append_assoc (take a o) bs (cs ++ drop (a + length (bs ++ cs)) o)
      ∙ ap (λ (l : List ℕ). take a o ++ l) (sym (append_assoc bs cs (drop (a + length (bs ++ cs)) o)))

-- a piece copied over the part of `o` that it is as long as
pub copied_is : (o : List ℕ) (a : ℕ) (bs r : List ℕ) → a + length bs ≤ length o
    → r ≡ bs
    → Put o a bs (take a o ++ (r ++ drop (a + length bs - a) (drop a o))) (a + length bs)
unfolding put
copied_is o a bs r f e = record {
  fits = f;
  is = ap₂ (λ (r end : List ℕ). take a o ++ (r ++ end)) e behind;
  ends = refl;
}
  where
    behind : drop (a + length bs - a) (drop a o) ≡ drop (a + length bs) o
    behind = ap (λ (n : ℕ). drop n (drop a o)) (add-sub_cancel_left a (length bs)) ∙ drop-drop (length bs) a o

-- nothing put
pub put_none : (o : List ℕ) (a : ℕ) → a ≤ length o → Put o a [] o a
unfolding put
put_none o a f = record {
  fits = rw add-zero f;
  is = sym (ap (λ (n : ℕ). take a o ++ drop n o) (add-zero a) ∙ take-append-drop a o);
  ends = sym (add-zero a);
}

-- the length stays
pub put_same_length : (o : List ℕ) (a : ℕ) (bs p : List ℕ) (e : ℕ) → Put o a bs p e → length p ≡ length o
put_same_length o a bs p e P = ap length P.is ∙ put_length o a bs P.fits

-- one piece behind another
pub put_then : (o : List ℕ) (a : ℕ) (bs p : List ℕ) (e : ℕ) (cs q : List ℕ) (g : ℕ) → Put o a bs p e → Put p e cs q g → Put o a (bs ++ cs) q g
put_then o a bs p e cs q g P Q = record {
  fits = omega (arith, length-append bs cs, put_same_length o a bs p e P, P.ends, Q.fits);
  is = Q.is ∙ ap₂ (λ (l : List ℕ) (n : ℕ). put l n cs) P.is P.ends ∙ put_put o a bs P.fits cs;
  ends = omega (arith, length-append bs cs, P.ends, Q.ends);
}

module _ (o : List ℕ) (a : ℕ) (bs p : List ℕ) (e : ℕ) (cs q : List ℕ) (g : ℕ) (P : Put o a bs p e) (Q : Put p e cs q g) where
  pub three_pieces : (ds r : List ℕ) (h : ℕ) → Put q g ds r h → Put o a (bs ++ (cs ++ ds)) r h
  three_pieces ds r h R = put_then o a bs p e (cs ++ ds) r h P (put_then p e cs q g ds r h Q R)

  pub four_pieces : (ds r : List ℕ) (h : ℕ) (es v : List ℕ) (k : ℕ) → Put q g ds r h → Put r h es v k → Put o a (bs ++ (cs ++ (ds ++ es))) v k
  four_pieces ds r h es v k R W = three_pieces (ds ++ es) v k (put_then q g ds r h es v k R W)

-- one piece before another
module _ (o : List ℕ) (a : ℕ) (bs cs : List ℕ) where
  pub put_before : a + length bs + length cs ≤ length o → put (put o (a + length bs) cs) a bs ≡ put o a (bs ++ cs)
  unfolding put
  put_before f =
      let e : a + length bs + length cs ≡ a + length (bs ++ cs) = omega (arith, length-append bs cs) in
      let long : length (take (a + length bs) o) ≡ a + length bs = length-take-le (a + length bs) o (omega arith) in
      let before : take a (put o (a + length bs) cs) ≡ take a o =
      take-append-le a (take (a + length bs) o) (cs ++ drop (a + length bs + length cs) o) (omega arith) ∙ take-take a (a + length bs) o (omega arith) in
      let after : drop (a + length bs) (put o (a + length bs) cs) ≡ cs ++ drop (a + length (bs ++ cs)) o =
      drop_at (take (a + length bs) o) (cs ++ drop (a + length bs + length cs) o) (a + length bs) long
      ∙ ap (λ (n : ℕ). cs ++ drop n o) e in
      ap₂ (λ (l r : List ℕ). l ++ (bs ++ r)) before after
      ∙ ap (λ (l : List ℕ). take a o ++ l) (sym (append_assoc bs cs (drop (a + length (bs ++ cs)) o)))

-- ---- loops of pieces

module _ (f : ℕ → List ℕ) where
  pub join_more : (i : ℕ) → length (join_below (i + 1) f) ≡ length (join_below i f) + length (f i)
  join_more i = ap length (sym (join_step i f (join_below i f) (join_below i f ++ f i) refl refl)) ∙ length-append (join_below i f) (f i)

  piece_within : (i n : ℕ) → i < n → length (join_below i f) + length (f i) ≤ length (join_below n f)
  piece_within i n l = omega (arith, join_more i, join_grows f (i + 1) n (omega arith))

module _ (f : ℕ → List ℕ) (o : List ℕ) (a : ℕ) where
  -- no piece is put yet
  pub pieces_none : a ≤ length o → Put o a (join_below 0 f) o a
  unfolding join_below
  pieces_none = put_none o a

  -- the next piece fits
  pub pieces_room : (i n : ℕ) (p : List ℕ) (e : ℕ) → a + length (join_below n f) ≤ length o → i < n → Put o a (join_below i f) p e
      → e + length (f i) ≤ length p
  pieces_room i n p e h l P = omega (arith, put_same_length o a (join_below i f) p e P, P.ends, piece_within f i n l)

  pub pieces_goes : (i : ℕ) (p : List ℕ) (e : ℕ) (q : List ℕ) (g : ℕ) → Put o a (join_below i f) p e → Put p e (f i) q g
      → Put o a (join_below (i + 1) f) q g
  pieces_goes i p e q g P Q =
      subst (λ (bs : List ℕ). Put o a bs q g) (join_step i f (join_below i f) (join_below i f ++ f i) refl refl)
      (put_then o a (join_below i f) p e (f i) q g P Q)

  pub pieces_ends : (n i : ℕ) (p : List ℕ) (e : ℕ) → Put o a (join_below i f) p e → i ≤ n → n ≤ i → Put o a (join_below n f) p e
  pieces_ends n i p e P l g = subst (λ (m : ℕ). Put o a (join_below m f) p e) (le_antisymm l g) P

-- ---- loops of pieces of nodes, which are numbered from 1: behind the bytes b stand the pieces f x of the nodes before x

abbrev pub before : ℕ → (ℕ → List ℕ) → List ℕ
before x f = join_below (x - 1) (node f)

module _ (b : List ℕ) (f : ℕ → List ℕ) (o : List ℕ) (a : ℕ) where
  pub nodes_start : (c p : List ℕ) (e : ℕ) → Put o a c p e → c ≡ b → Put o a (b ++ before 1 f) p e
  unfolding join_below
  nodes_start c p e P q = subst (λ (bs : List ℕ). Put o a bs p e) (q ∙ sym (append-nil b)) P

  pub nodes_room : (x m : ℕ) (p : List ℕ) (e : ℕ) → a + length (b ++ join_below m (node f)) ≤ length o
      → 1 ≤ x → x < m + 1 → Put o a (b ++ before x f) p e → e + length (f x) ≤ length p
  nodes_room x m p e h g l P =
      omega (
        arith,
        length-append b (join_below m (node f)),
        length-append b (before x f),
        put_same_length o a (b ++ before x f) p e P,
        P.ends,
        piece_within (node f) (x - 1) m (omega arith),
        ap (λ (x : ℕ). length (f x)) (let at : x - 1 + 1 ≡ x = omega arith in at),
      )

  pub nodes_goes : (x : ℕ) (p : List ℕ) (e : ℕ) (q : List ℕ) (g : ℕ) → 1 ≤ x → Put o a (b ++ before x f) p e
      → Put p e (f x) q g → Put o a (b ++ before (x + 1) f) q g
  nodes_goes x p e q g l P Q =
      let at : x - 1 + 1 ≡ x = omega arith in
      let next : x - 1 + 1 ≡ x + 1 - 1 = omega arith in
      let more : before x f ++ f x ≡ before (x + 1) f =
      ap (λ (y : ℕ). before x f ++ f y) (sym at)
      ∙ join_step (x - 1) (node f) (before x f) (before x f ++ f (x - 1 + 1)) refl refl
      ∙ ap (λ (k : ℕ). join_below k (node f)) next in
      subst (λ (bs : List ℕ). Put o a bs q g) (append_assoc b (before x f) (f x) ∙ ap (λ (l : List ℕ). b ++ l) more)
      (put_then o a (b ++ before x f) p e (f x) q g P Q)

  pub nodes_end : (x m : ℕ) (p : List ℕ) (e : ℕ) → Put o a (b ++ before x f) p e → x ≤ m + 1 → m + 1 ≤ x
      → Put o a (b ++ join_below m (node f)) p e
  nodes_end x m p e P l g =
      subst (λ (k : ℕ). Put o a (b ++ join_below k (node f)) p e) (let all : x - 1 ≡ m = omega arith in all) P
