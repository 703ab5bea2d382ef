-- Laws of counting and of joining by places: the places at which a test holds, counted; lists joined block by block. Assumes nothing.
use Prim.Native.Nat.{ℕ, zero, suc, ◌+◌, ◌*◌, ◌≤◌, ◌<◌}
use mathlib.Core.Path.{◌≡◌, refl, sym, ap, subst, ◌∙◌}
use mathlib.Core.Logic.{◌⊎◌, inl, inr}
use mathlib.Core.Bool.{Bool, true, false, not, cond, ◌&&◌}
use mathlib.Core.List.{List, [], ◌++◌, append_assoc, append-nil}
use native.Mathlib.Nat.{add-zero, add-suc, add_assoc, mul-zero, mul-suc, le_refl, le_step, lt-suc_self, eq-or-lt_of_le}
use native.Mathlib.Decide.{le_ind, dec_lt}
use native.Mathlib.Omega.{arith}
use lib.Dec.{eqb}
use lib.ListN.{length, get_or, length-append, get_or-append}
use lib.Seq.{get_or-append-add}
use borrow.Author.Tests.{eqb-true, eqb-false, not-true}
use Rattle.model.specs.Loops.{count_below, join_below}
use Rattle.model.proofs.Bools.{and_left, and_right, back_false}
use Rattle.model.proofs.Loops.{count_none}

-- ---- counts

-- more places count no less, and a place at which the test holds counts one
pub count_mono : (m n : ℕ) (f : ℕ → Bool) → m ≤ n → count_below m f ≤ count_below n f
unfolding count_below
count_mono m n f l =
    le_ind (λ (n : ℕ). count_below m f ≤ count_below n f) (le_refl (count_below m f)) (λ k g h. omega (arith, h)) n l

pub count_more : (n : ℕ) (f : ℕ → Bool) → f n ≡ true → count_below (suc n) f ≡ count_below n f + 1
unfolding count_below
count_more n f e = ap (λ (b : Bool). count_below n f + cond b 1 0) e

pub count_no_more : (n : ℕ) (f : ℕ → Bool) → f n ≡ false → count_below (suc n) f ≡ count_below n f
unfolding count_below
count_no_more n f e = ap (λ (b : Bool). count_below n f + cond b 1 0) e ∙ add-zero (count_below n f)

pub count_rises : (m n : ℕ) (f : ℕ → Bool) → m < n → f m ≡ true → count_below m f < count_below n f
count_rises m n f l e = omega (arith, count_more m f e, count_mono (suc m) n f l)

-- the place at which the test holds for the r-th time
pub record Ranked (n : ℕ) (f : ℕ → Bool) (r : ℕ) : Type 0 where
  pub place : ℕ
  pub within : place < n
  pub holds : f place ≡ true
  pub rank : count_below place f ≡ r

pub count_finds : (n : ℕ) (f : ℕ → Bool) (r : ℕ) → r < count_below n f → Ranked n f r
unfolding count_below
count_finds zero f r l = absurd (omega arith)
count_finds (suc n) f r l = go (f n) refl (dec_lt r (count_below n f)) l (count_finds n f r)
  where
    go : (b : Bool) → f n ≡ b → Dec (r < count_below n f) → r < count_below n f + cond b 1 0 → (r < count_below n f → Ranked n f r) → Ranked (suc n) f r
    go b e (yes h) l ih =
        let w : Ranked n f r = ih h in
        record { place = w.place; within = le_step w.within; holds = w.holds; rank = w.rank }
    go true e (no g) l ih = record { place = n; within = lt-suc_self n; holds = e; rank = omega arith }
    go false e (no g) l ih = absurd (omega arith)

-- where the test holds at most once
pub count_one : (n : ℕ) (f : ℕ → Bool) → ((p q : ℕ) → p < n → q < n → f p ≡ true → f q ≡ true → p ≡ q) → count_below n f ≤ 1
unfolding count_below
count_one zero f h = omega arith
count_one (suc n) f h = go (f n) refl (count_one n f (λ p q l g. h p q (le_step l) (le_step g)))
  where
    go : (b : Bool) → f n ≡ b → count_below n f ≤ 1 → count_below n f + cond b 1 0 ≤ 1
    go true e ih =
        let z : count_below n f ≡ 0 = count_none n f (λ k l. back_false (f k) false (λ t. absurd (omega (arith, l, h k n (le_step l) (lt-suc_self n) t e))) refl) in
        omega arith
    go false e ih = omega arith

-- counted by two tests
pub count_split : (n : ℕ) (f g : ℕ → Bool) → count_below n f ≡ count_below n (λ k. f k && g k) + count_below n (λ k. f k && not (g k))
unfolding count_below
count_split zero f g = refl
count_split (suc n) f g = go (f n) (g n) (count_split n f g)
  where
    go : (x y : Bool) → count_below n f ≡ count_below n (λ k. f k && g k) + count_below n (λ k. f k && not (g k))
        → count_below n f + cond x 1 0 ≡ count_below n (λ k. f k && g k) + cond (x && y) 1 0 + (count_below n (λ k. f k && not (g k)) + cond (x && not y) 1 0)
    go true true e = omega arith
    go true false e = omega arith
    go false y e = omega arith

-- different places at which the test holds have different numbers below m, so they are at most m
pub count_most : (n m : ℕ) (test : ℕ → Bool) (f : ℕ → ℕ) → ((p : ℕ) → p < n → test p ≡ true → f p < m)
    → ((p q : ℕ) → p < n → q < n → test p ≡ true → test q ≡ true → f p ≡ f q → p ≡ q) → count_below n test ≤ m
count_most n zero test f below differ =
    omega (arith, count_none n test (λ k l. back_false (test k) false (λ t. absurd (omega (arith, below k l t))) refl))
count_most n (suc m) test f below differ =
    let one : count_below n (λ k. test k && eqb (f k) m) ≤ 1 =
    count_one n (λ k. test k && eqb (f k) m)
    (λ p q l g a b.
    differ p q l g (and_left _ _ a) (and_left _ _ b)
    (eqb-true (f p) m (and_right (test p) _ a) ∙ sym (eqb-true (f q) m (and_right (test q) _ b)))) in
    let rest : count_below n (λ k. test k && not (eqb (f k) m)) ≤ m =
    count_most n m (λ k. test k && not (eqb (f k) m)) f
    (λ p l t.
    let h : f p < suc m = below p l (and_left _ _ t) in
    let g : f p ≡ m → ⊥ = eqb-false (f p) m (not-true _ (and_right (test p) _ t)) in
    omega (arith, g))
    (λ p q l g a b. differ p q l g (and_left _ _ a) (and_left _ _ b)) in
    omega (arith, count_split n test (λ k. eqb (f k) m))

-- m different places at which a test holds are no more than it counts: each has its own rank
count_all : (m : ℕ) → count_below m (λ k. true) ≡ m
unfolding count_below
count_all zero = refl
count_all (suc m) = omega (arith, count_all m)

same_rank : (p q : ℕ) (test : ℕ → Bool) → test p ≡ true → test q ≡ true → count_below p test ≡ count_below q test → p ≡ q
same_rank p q test a b e =
    let f : p < q → ⊥ = λ l. omega (arith, count_rises p q test l a) in
    let g : q < p → ⊥ = λ l. omega (arith, count_rises q p test l b) in
    omega (arith, f, g)

pub count_least : (n m : ℕ) (test : ℕ → Bool) (f : ℕ → ℕ) → ((k : ℕ) → k < m → (f k < n) × (test (f k) ≡ true))
    → ((j k : ℕ) → j < m → k < m → f j ≡ f k → j ≡ k) → m ≤ count_below n test
count_least n m test f holds differ =
    subst (λ (c : ℕ). c ≤ count_below n test) (count_all m)
    (count_most m (count_below n test) (λ k. true) (λ k. count_below (f k) test) (λ k l e. count_rises (f k) n test (holds k l).0 (holds k l).1)
    (λ j k l g a b e. differ j k l g (same_rank (f j) (f k) test (holds j l).1 (holds k g).1 e)))

-- counted block by block
count_add : (m n : ℕ) (f : ℕ → Bool) → count_below (m + n) f ≡ count_below m f + count_below n (λ k. f (m + k))
unfolding count_below
count_add m zero f = ap (λ (k : ℕ). count_below k f) (add-zero m) ∙ sym (add-zero (count_below m f))
count_add m (suc n) f =
    ap (λ (k : ℕ). count_below k f) (add-suc m n)
    ∙ ap (λ (k : ℕ). k + cond (f (m + n)) 1 0) (count_add m n f)
    ∙ add_assoc (count_below m f) (count_below n (λ k. f (m + k))) (cond (f (m + n)) 1 0)

pub count_blocks : (m n c : ℕ) (f : ℕ → Bool) → ((q : ℕ) → q < n → count_below m (λ r. f (m * q + r)) ≤ c) → count_below (m * n) f ≤ c * n
unfolding count_below
count_blocks m zero c f h = rw (mul-zero m, mul-zero c) (omega arith)
count_blocks m (suc n) c f h =
    rw (mul-suc m n, mul-suc c n)
    (omega (arith, count_add (m * n) m f, count_blocks m n c f (λ q l. h q (le_step l)), h n (lt-suc_self n)))

-- ---- joined lists

-- more lists are no shorter
pub join_grows : (f : ℕ → List ℕ) (m n : ℕ) → m ≤ n → length (join_below m f) ≤ length (join_below n f)
unfolding join_below
join_grows f m n l =
    le_ind (λ (n : ℕ). length (join_below m f) ≤ length (join_below n f)) (le_refl (length (join_below m f)))
    (λ k g h. omega (arith, h, length-append (join_below k f) (f k))) n l

-- what stands at a place of the p-th list
pub join_at : (f : ℕ → List ℕ) (n p k : ℕ) → p < n → k < length (f p) → get_or (join_below n f) (length (join_below p f) + k) 0 ≡ get_or (f p) k 0
unfolding join_below
join_at f n p k l h =
    le_ind (λ (n : ℕ). get_or (join_below n f) (length (join_below p f) + k) 0 ≡ get_or (f p) k 0) (get_or-append-add (join_below p f) (f p) k 0)
    (λ m g ih.
    get_or-append (join_below m f) (f m) 0 (length (join_below p f) + k) (omega (arith, h, length-append (join_below p f) (f p), join_grows f (suc p) m g)) ∙ ih)
    n l

-- the lists below m, then n more
pub join_add : (m n : ℕ) (f : ℕ → List ℕ) → join_below (m + n) f ≡ join_below m f ++ join_below n (λ k. f (m + k))
unfolding join_below
join_add m zero f = ap (λ (k : ℕ). join_below k f) (add-zero m) ∙ sym (append-nil (join_below m f))
join_add m (suc n) f =
    ap (λ (k : ℕ). join_below k f) (add-suc m n)
    ∙ ap (λ (l : List ℕ). l ++ f (m + n)) (join_add m n f)
    ∙ append_assoc (join_below m f) (join_below n (λ k. f (m + k))) (f (m + n))

-- lists that are empty from m on
pub join_skip : (m n : ℕ) (f : ℕ → List ℕ) → m ≤ n → ((k : ℕ) → m ≤ k → k < n → f k ≡ []) → join_below n f ≡ join_below m f
unfolding join_below
join_skip m zero f l h = let e : 0 ≡ m = omega arith in ap (λ (k : ℕ). join_below k f) e
join_skip m (suc n) f l h = go (eq-or-lt_of_le l) (λ g. join_skip m n f g (λ k a b. h k a (le_step b)))
  where
    go : (m ≡ suc n) ⊎ (m < suc n) → (m ≤ n → join_below n f ≡ join_below m f) → join_below n f ++ f n ≡ join_below m f
    go (inl e) ih = ap (λ (k : ℕ). join_below k f) (sym e)
    go (inr g) ih =
        ap (λ (l : List ℕ). join_below n f ++ l) (h n (omega arith) (lt-suc_self n))
        ∙ append-nil (join_below n f)
        ∙ ih (omega arith)

-- n blocks of m lists
pub join_blocks : (m n : ℕ) (f : ℕ → List ℕ) → join_below n (λ q. join_below m (λ r. f (m * q + r))) ≡ join_below (m * n) f
unfolding join_below
join_blocks m zero f = ap (λ (k : ℕ). join_below k f) (sym (mul-zero m))
join_blocks m (suc n) f =
    ap (λ (l : List ℕ). l ++ join_below m (λ r. f (m * n + r))) (join_blocks m n f)
    ∙ sym (join_add (m * n) m f)
    ∙ ap (λ (k : ℕ). join_below k f) (sym (mul-suc m n))
