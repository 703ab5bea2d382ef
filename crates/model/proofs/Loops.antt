-- Laws of the loops below a number, each by induction on the number of turns. A code loop that counts up by `i + 1` cites them and never
-- unfolds a loop: `.._goes`, `.._leaves` and `.._ends` are its ways on, a turn that goes on, an early return, and the end.
-- There `r` is what the code has computed for the test at an index; a fact on `not r` is what `if !r` gives. Assumes nothing.
use Prim.Native.Nat.{ℕ, zero, suc, ◌+◌, ◌≤◌, ◌<◌}
use mathlib.Core.Path.{◌≡◌, refl, sym, ap, ap₂, subst, fun_ext, ◌∙◌}
use mathlib.Core.Logic.{◌⊎◌, inl, inr}
use mathlib.Core.Bool.{Bool, true, false, not, cond, ◌&&◌, ◌||◌, and-false, or-true}
use mathlib.Core.List.{List, [], ◌++◌}
use native.Mathlib.Nat.{le_of_suc-le-suc, le_refl, le-suc, le_antisymm, eq-or-lt_of_le, lt-suc_self, le_of_lt, le_step, lt_irrefl, lt_of_not-le, lt_of_lt_of_le}
use native.Mathlib.Decide.{le_ind}
use native.Mathlib.Numerals.{add-one, add-one-le, lt_of_le_of_ne}
use native.Mathlib.Omega.{arith}
use lib.Dec.{ltb}
use borrow.Author.Tests.{not-true, not-false, ltb-true, ltb-false}
use Rattle.model.specs.Loops.{all_below, any_below, count_below, sum_below, first_below, each_below, join_below}
use Rattle.model.proofs.Bools.{back_true, back_false, not_both}

-- what holds where the code's counter stops holds at the end
at_end {ℓ} : (P : ℕ → Type ℓ) {i n : ℕ} → P i → i ≤ n → n ≤ i → P n
at_end P p l g = subst P (le_antisymm l g) p

-- ---- all_below

pub all_zero_lem : (f : ℕ → Bool) → all_below 0 f ≡ true
unfolding all_below
all_zero_lem f = refl

pub all_step : (n : ℕ) (f : ℕ → Bool) → all_below (n + 1) f ≡ (all_below n f && f n)
unfolding all_below
all_step n f = rw add-one

pub all_of : (n : ℕ) (f : ℕ → Bool) → ((k : ℕ) → k < n → f k ≡ true) → all_below n f ≡ true
unfolding all_below
all_of zero f h = refl
all_of (suc n) f h = ap₂ ◌&&◌ (all_of n f (λ k l. h k (le_step l))) (h n (lt-suc_self n))

pub all_false : (n : ℕ) (f : ℕ → Bool) (k : ℕ) → k < n → f k ≡ false → all_below n f ≡ false
unfolding all_below
all_false n f k l e =
    le_ind (λ (m : ℕ). all_below m f ≡ false) (ap (λ (b : Bool). all_below k f && b) e ∙ and-false (all_below k f))
    (λ m g h. ap (λ (b : Bool). b && f m) h) n l

pub all_at : (n : ℕ) (f : ℕ → Bool) → all_below n f ≡ true → (k : ℕ) → k < n → f k ≡ true
all_at n f e k l = back_true (f k) (all_below n f) (all_false n f k l) e

pub all_goes : (i : ℕ) (f : ℕ → Bool) (r : Bool) → all_below i f ≡ true → r ≡ f i → not r ≡ false → all_below (i + 1) f ≡ true
all_goes i f r e q h = all_step i f ∙ ap₂ ◌&&◌ e (sym q ∙ not-false r h)

pub all_leaves : (n : ℕ) (f : ℕ → Bool) (i : ℕ) (r : Bool) → i < n → r ≡ f i → not r ≡ true → false ≡ all_below n f
all_leaves n f i r l q h = sym (all_false n f i l (sym q ∙ not-true r h))

pub all_ends : (n : ℕ) (f : ℕ → Bool) (i : ℕ) → all_below i f ≡ true → i ≤ n → n ≤ i → true ≡ all_below n f
all_ends n f i e l g = sym (at_end (λ (m : ℕ). all_below m f ≡ true) e l g)

-- ---- any_below

pub any_zero : (f : ℕ → Bool) → any_below 0 f ≡ false
unfolding any_below
any_zero f = refl

pub any_step : (n : ℕ) (f : ℕ → Bool) → any_below (n + 1) f ≡ (any_below n f || f n)
unfolding any_below
any_step n f = rw add-one

pub any_of : (n : ℕ) (f : ℕ → Bool) (k : ℕ) → k < n → f k ≡ true → any_below n f ≡ true
unfolding any_below
any_of n f k l e =
    le_ind (λ (m : ℕ). any_below m f ≡ true) (ap (λ (b : Bool). any_below k f || b) e ∙ or-true (any_below k f))
    (λ m g h. ap (λ (b : Bool). b || f m) h) n l

pub any_at : (n : ℕ) (f : ℕ → Bool) → any_below n f ≡ false → (k : ℕ) → k < n → f k ≡ false
any_at n f e k l = back_false (f k) (any_below n f) (any_of n f k l) e

pub any_false : (n : ℕ) (f : ℕ → Bool) → ((k : ℕ) → k < n → f k ≡ false) → any_below n f ≡ false
unfolding any_below
any_false zero f h = refl
any_false (suc n) f h = ap₂ ◌||◌ (any_false n f (λ k l. h k (le_step l))) (h n (lt-suc_self n))

pub any_goes : (i : ℕ) (f : ℕ → Bool) (r : Bool) → any_below i f ≡ false → r ≡ f i → r ≡ false → any_below (i + 1) f ≡ false
any_goes i f r e q h = any_step i f ∙ ap₂ ◌||◌ e (sym q ∙ h)

pub any_leaves : (n : ℕ) (f : ℕ → Bool) (i : ℕ) (r : Bool) → i < n → r ≡ f i → r ≡ true → true ≡ any_below n f
any_leaves n f i r l q h = sym (any_of n f i l (sym q ∙ h))

pub any_ends : (n : ℕ) (f : ℕ → Bool) (i : ℕ) → any_below i f ≡ false → i ≤ n → n ≤ i → false ≡ any_below n f
any_ends n f i e l g = sym (at_end (λ (m : ℕ). any_below m f ≡ false) e l g)

-- ---- first_below

-- what the first index is: no test before it holds, and it is n or its own test holds
pub record First (n : ℕ) (f : ℕ → Bool) (k : ℕ) : Type 0 where
  pub within : k ≤ n
  pub before : (m : ℕ) → m < k → f m ≡ false
  pub holds : k < n → f k ≡ true

pub le_of_not_lt : {a b : ℕ} → (b < a → ⊥) → a ≤ b
le_of_not_lt h = le_of_suc-le-suc (lt_of_not-le h)

pub first_is : (n : ℕ) (f : ℕ → Bool) → First n f (first_below n f)
unfolding first_below
first_is zero f = record { within = omega arith; before = λ m l. absurd (omega arith); holds = λ l. absurd (omega arith) }
first_is (suc n) f = go (first_below n f) (first_is n f) (ltb (first_below n f) n) (f n) refl refl
  where
    last : (m : ℕ) → (m < n → f m ≡ false) → (m ≡ n) ⊎ (m < n) → f n ≡ false → f m ≡ false
    last m h (inl p) q = ap f p ∙ q
    last m h (inr l) q = h l

    go : (k : ℕ) → First n f k → (a b : Bool) → ltb k n ≡ a → f n ≡ b → First (suc n) f (cond a k (cond b n (suc n)))
    go k w true b e q =
        let l : k < n = ltb-true k n e in
        record { within = omega arith; before = w.before; holds = λ g. w.holds l }
    go k w false true e q = let g : n ≤ k = ltb-false k n e in record {
      within = le-suc n;
      before = λ m l. w.before m (omega arith);
      holds = λ l. q;
    }
    go k w false false e q = let g : n ≤ k = ltb-false k n e in record {
      within = le_refl (suc n);
      before = λ m l. last m (λ h. w.before m (omega arith)) (eq-or-lt_of_le (le_of_suc-le-suc l)) q;
      holds = λ l. absurd (lt_irrefl (suc n) l);
    }

pub first_le : (n : ℕ) (f : ℕ → Bool) → first_below n f ≤ n
first_le n f = (first_is n f).within

pub first_before : (n : ℕ) (f : ℕ → Bool) (k : ℕ) → k < first_below n f → f k ≡ false
first_before n f = (first_is n f).before

pub first_holds : (n : ℕ) (f : ℕ → Bool) → first_below n f < n → f (first_below n f) ≡ true
first_holds n f = (first_is n f).holds

-- no index at which the test holds stands before the first
pub first_min : (n : ℕ) (f : ℕ → Bool) (k : ℕ) → f k ≡ true → first_below n f ≤ k
first_min n f k e = le_of_not_lt (λ l. not_both (f k) e (first_before n f k l))

pub first_unique : (n : ℕ) (f : ℕ → Bool) (k : ℕ) → First n f k → k ≡ first_below n f
first_unique n f k w =
    le_antisymm
    (le_of_not_lt (λ l. not_both (f (first_below n f)) (first_holds n f (omega (arith, w.within))) (w.before (first_below n f) l)))
    (le_of_not_lt (λ l. not_both (f k) (w.holds (omega (arith, first_le n f))) (first_before n f k l)))

-- a code loop whose counter is at most the first index
pub first_goes : (n : ℕ) (f : ℕ → Bool) (i : ℕ) (r : Bool) → i ≤ first_below n f → i < n → r ≡ f i → r ≡ false → i + 1 ≤ first_below n f
first_goes n f i r l h q e =
    add-one-le (lt_of_le_of_ne l (λ p. not_both (f i) (subst (λ (k : ℕ). k < n → f k ≡ true) (sym p) (first_holds n f) h) (sym q ∙ e)))

pub first_leaves : (n : ℕ) (f : ℕ → Bool) (i : ℕ) (r : Bool) → i ≤ first_below n f → r ≡ f i → r ≡ true → i ≡ first_below n f
first_leaves n f i r l q e = le_antisymm l (first_min n f i (sym q ∙ e))

pub first_ends : (n : ℕ) (f : ℕ → Bool) (i : ℕ) → i ≤ first_below n f → n ≤ i → i ≡ first_below n f
first_ends n f i l g = omega (arith, first_le n f)

-- a test that holds somewhere has a first index, and one that fails somewhere an index where it fails
pub first_some : (n : ℕ) (f : ℕ → Bool) → any_below n f ≡ true → first_below n f < n
first_some n f e =
    lt_of_not-le (λ g. not_both (any_below n f) e (any_false n f (λ k l. first_before n f k (lt_of_lt_of_le l g))))

pub any_found : (n : ℕ) (f : ℕ → Bool) → any_below n f ≡ true → (k : ℕ) × (k < n) × (f k ≡ true)
any_found n f e = let l = first_some n f e in (first_below n f, l, first_holds n f l)

-- the first index at which a test fails, and whether it holds at all

pub first_whole : (n : ℕ) (f : ℕ → Bool) → n ≤ first_below n (λ k. not (f k)) → all_below n f ≡ true
first_whole n f l = all_of n f (λ k h. not-false (f k) (first_before n (λ k. not (f k)) k (lt_of_lt_of_le h l)))

pub first_short_lem : (n : ℕ) (f : ℕ → Bool) → first_below n (λ k. not (f k)) < n → all_below n f ≡ false
first_short_lem n f l =
    all_false n f (first_below n (λ k. not (f k))) l (not-true (f (first_below n (λ k. not (f k)))) (first_holds n (λ k. not (f k)) l))

pub first_fails : (n : ℕ) (f : ℕ → Bool) → all_below n f ≡ false → first_below n (λ k. not (f k)) < n
first_fails n f e = lt_of_not-le (λ g. not_both (all_below n f) (first_whole n f g) e)

-- ---- count_below

pub count_zero : (f : ℕ → Bool) → count_below 0 f ≡ 0
unfolding count_below
count_zero f = refl

pub count_step : (n : ℕ) (f : ℕ → Bool) → count_below (n + 1) f ≡ count_below n f + cond (f n) 1 0
unfolding count_below
count_step n f = rw add-one

pub count_le : (n : ℕ) (f : ℕ → Bool) → count_below n f ≤ n
unfolding count_below
count_le zero f = le_refl 0
count_le (suc n) f = go (f n) (count_le n f)
  where
    go : (b : Bool) → count_below n f ≤ n → count_below n f + cond b 1 0 ≤ suc n
    go true l = omega arith
    go false l = omega arith

-- where the test holds somewhere the count is not 0
pub count_some : (n : ℕ) (f : ℕ → Bool) (k : ℕ) → k < n → f k ≡ true → 1 ≤ count_below n f
unfolding count_below
count_some n f k l e =
    le_ind (λ (m : ℕ). 1 ≤ count_below m f) (rw e (omega arith)) (λ m g h. omega (arith, h)) n l

-- where it holds nowhere the count is 0
pub count_none : (n : ℕ) (f : ℕ → Bool) → ((k : ℕ) → k < n → f k ≡ false) → count_below n f ≡ 0
unfolding count_below
count_none zero f h = refl
count_none (suc n) f h = rw (h n (omega arith), count_none n f (λ k l. h k (omega (arith, l))))

pub count_hit : (i : ℕ) (f : ℕ → Bool) (r : Bool) (x y : ℕ) → x ≡ count_below i f → r ≡ f i → r ≡ true → y ≡ x + 1 → y ≡ count_below (i + 1) f
count_hit i f r x y e q h g = g ∙ ap₂ (λ (n : ℕ) (b : Bool). n + cond b 1 0) e (sym h ∙ q) ∙ sym (count_step i f)

-- ---- each_below

module _ {ℓ} {A : Type ℓ} where
  pub each_zero : (step : ℕ → A → A) (a : A) → a ≡ each_below 0 step a
  unfolding each_below
  each_zero step a = refl

  pub each_step : (i : ℕ) (step : ℕ → A → A) (a x y : A) → x ≡ each_below i step a → y ≡ step i x → y ≡ each_below (i + 1) step a
  unfolding each_below
  each_step i step a x y e q = rw add-one (q ∙ ap (step i) e)

  pub each_ends : (n : ℕ) (step : ℕ → A → A) (a : A) (i : ℕ) (x : A) → x ≡ each_below i step a → i ≤ n → n ≤ i → x ≡ each_below n step a
  each_ends n step a i x = at_end (λ (m : ℕ). x ≡ each_below m step a)

  -- starting at n gives the same, where the steps below n change nothing
  pub each_from : (n : ℕ) (step : ℕ → A → A) (a : A) → ((k : ℕ) (x : A) → k < n → step k x ≡ x) → a ≡ each_below n step a
  unfolding each_below
  each_from zero step a h = refl
  each_from (suc n) step a h = each_from n step a (λ k x l. h k x (le_step l)) ∙ sym (h n _ (lt-suc_self n))

  -- what each step leads from one index to the next holds at the end
  pub each_leads {κ} : (P : ℕ → A → Type κ) (n : ℕ) (step : ℕ → A → A) (a : A) → P 0 a
      → ((k : ℕ) (x : A) → k < n → P k x → P (suc k) (step k x)) → P n (each_below n step a)
  unfolding each_below
  each_leads P zero step a p h = p
  each_leads P (suc n) step a p h = h n (each_below n step a) (lt-suc_self n) (each_leads P n step a p (λ k x l. h k x (le_step l)))

  pub each_keeps {κ} : (P : A → Type κ) (n : ℕ) (step : ℕ → A → A) (a : A) → P a
      → ((k : ℕ) (x : A) → k < n → P x → P (step k x)) → P (each_below n step a)
  each_keeps P = each_leads (λ k. P)

  -- what step i brings about and every step keeps holds at the end; Q is what every step keeps
  pub each_does {κ μ} : (Q : A → Type κ) (P : A → Type μ) (n : ℕ) (step : ℕ → A → A) (a : A) → Q a
      → ((k : ℕ) (x : A) → k < n → Q x → Q (step k x)) → (i : ℕ) → i < n → ((x : A) → Q x → P (step i x))
      → ((k : ℕ) (x : A) → k < n → Q x → P x → P (step k x)) → P (each_below n step a)
  unfolding each_below
  each_does Q P n step a q keeps i l does stays =
      le_ind (λ (m : ℕ). m ≤ n → P (each_below m step a)) (λ h. does _ (before i h)) (λ m g ih h. stays m _ h (before m h) (ih (le_of_lt h)))
      n l (le_refl n)
    where
      before : (m : ℕ) → m < n → Q (each_below m step a)
      before m h = each_keeps Q m step a q (λ k x g. keeps k x (omega arith))

-- ---- join_below

pub join_step : (i : ℕ) (f : ℕ → List ℕ) (x y : List ℕ) → x ≡ join_below i f → y ≡ x ++ f i → y ≡ join_below (i + 1) f
unfolding join_below
join_step i f x y e q = rw add-one (q ∙ ap (λ (l : List ℕ). l ++ f i) e)

-- ---- two loops that agree at every index are equal

module _ {ℓ κ} {A : Type ℓ} {B : Type κ} (F : ℕ → (ℕ → A) → B) (z : B) (op : ℕ → B → A → B)
    (at_zero : (f : ℕ → A) → F 0 f ≡ z) (at_suc : (n : ℕ) (f : ℕ → A) → F (suc n) f ≡ op n (F n f) (f n)) where
  same : (n : ℕ) (f g : ℕ → A) → ((k : ℕ) → k < n → f k ≡ g k) → F n f ≡ F n g
  same zero f g h = at_zero f ∙ sym (at_zero g)
  same (suc n) f g h = at_suc n f ∙ ap₂ (op n) (same n f g (λ k l. h k (le_step l))) (h n (lt-suc_self n)) ∙ sym (at_suc n g)

pub all_same : (n : ℕ) (f g : ℕ → Bool) → ((k : ℕ) → k < n → f k ≡ g k) → all_below n f ≡ all_below n g
unfolding all_below
all_same = same all_below true (λ n. ◌&&◌) (λ f. refl) (λ n f. refl)

pub any_same : (n : ℕ) (f g : ℕ → Bool) → ((k : ℕ) → k < n → f k ≡ g k) → any_below n f ≡ any_below n g
unfolding any_below
any_same = same any_below false (λ n. ◌||◌) (λ f. refl) (λ n f. refl)

pub count_same : (n : ℕ) (f g : ℕ → Bool) → ((k : ℕ) → k < n → f k ≡ g k) → count_below n f ≡ count_below n g
unfolding count_below
count_same = same count_below 0 (λ n x b. x + cond b 1 0) (λ f. refl) (λ n f. refl)

pub sum_same : (n : ℕ) (f g : ℕ → ℕ) → ((k : ℕ) → k < n → f k ≡ g k) → sum_below n f ≡ sum_below n g
unfolding sum_below
sum_same = same sum_below 0 (λ n. ◌+◌) (λ f. refl) (λ n f. refl)

pub first_same : (n : ℕ) (f g : ℕ → Bool) → ((k : ℕ) → k < n → f k ≡ g k) → first_below n f ≡ first_below n g
unfolding first_below
first_same = same first_below 0 (λ n k b. cond (ltb k n) k (cond b n (suc n))) (λ f. refl) (λ n f. refl)

pub join_same : (n : ℕ) (f g : ℕ → List ℕ) → ((k : ℕ) → k < n → f k ≡ g k) → join_below n f ≡ join_below n g
unfolding join_below
join_same = same join_below [] (λ n. ◌++◌) (λ f. refl) (λ n f. refl)

pub each_same {ℓ} : {A : Type ℓ} (n : ℕ) (f g : ℕ → A → A) (a : A) → ((k : ℕ) (x : A) → k < n → f k x ≡ g k x)
    → each_below n f a ≡ each_below n g a
unfolding each_below
each_same n f g a h = same (λ m f. each_below m f a) a (λ n x f. f x) (λ f. refl) (λ n f. refl) n f g (λ k l. fun_ext (λ x. h k x l))

-- ---- what a code loop's goals are closed by, as `search (rules, each_loop)`

pub ruleset each_loop = (each_zero, each_step, each_ends)
