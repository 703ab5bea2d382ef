-- Lists of sentences: the ways of a chain of early returns that judges them in order, what a list that refuses nothing says, and bounds of
-- the number. Assumes nothing.
use Prim.Native.Nat.{ℕ, ◌<◌}
use mathlib.Core.Path.{◌≡◌, refl, sym, ap, ap₂, ◌∙◌}
use mathlib.Core.Logic.{◌≢◌}
use mathlib.Core.Bool.{Bool, true, false, cond, not, ◌&&◌}
use mathlib.Core.List.{List, [], ◌∷◌, ◌++◌}
use native.Mathlib.Decide.{ℕ_discrete}
use native.Mathlib.Omega.{arith}
use lib.Dec.{eqb, ltb}
use borrow.Author.Tests.{eq-eqb, ltb-true, not-true, not-false}
use Rattle.model.specs.Refusals.{Sentence, first_true}
use Rattle.model.proofs.Bools.{and_left, and_right, not_both}

-- ---- early returns

pub sentence_leaves : (test : Bool) (n : ℕ) (later : List Sentence) (r : Bool) → r ≡ test → r ≡ true → n ≡ first_true ((test, n) ∷ later)
unfolding first_true
sentence_leaves test n later r e h = ap (λ (b : Bool). cond b n (first_true later)) (sym h ∙ e)

pub sentence_goes : (test : Bool) (n : ℕ) (later : List Sentence) (x : ℕ) (r : Bool) → r ≡ test → r ≡ false → x ≡ first_true later
    → x ≡ first_true ((test, n) ∷ later)
unfolding first_true
sentence_goes test n later x r e h q = q ∙ ap (λ (b : Bool). cond b n (first_true later)) (sym h ∙ e)

pub sentence_not_leaves : (test : Bool) (n : ℕ) (later : List Sentence) (r : Bool) → r ≡ test → not r ≡ true
    → n ≡ first_true ((not test, n) ∷ later)
sentence_not_leaves test n later r e h = sentence_leaves (not test) n later (not r) (ap not e) h

pub sentence_not_goes : (test : Bool) (n : ℕ) (later : List Sentence) (x : ℕ) (r : Bool) → r ≡ test → not r ≡ false → x ≡ first_true later
    → x ≡ first_true ((not test, n) ∷ later)
sentence_not_goes test n later x r e h q = sentence_goes (not test) n later x (not r) (ap not e) h q

-- a list of no sentences
pub sentence_none : 0 ≡ first_true []
unfolding first_true
sentence_none = refl

pub ruleset sentences = (sentence_leaves, sentence_goes, sentence_not_leaves, sentence_not_goes, sentence_none)

-- and where it asks the two halves of a test one after the other
module _ (a b : Bool) (n : ℕ) (later : List Sentence) (v : Bool) (e : v ≡ a) where
  pub left_leaves : not v ≡ true → n ≡ first_true ((not (a && b), n) ∷ later)
  left_leaves h =
      sentence_not_leaves (a && b) n later (v && b) (ap (λ (a : Bool). a && b) e) (ap (λ (v : Bool). not (v && b)) (not-true v h))

  module _ (h : not v ≡ false) (w : Bool) (f : w ≡ b) where
    halves : (v && w) ≡ w
    halves = ap (λ (v : Bool). v && w) (not-false v h)

    pub right_leaves : not w ≡ true → n ≡ first_true ((not (a && b), n) ∷ later)
    right_leaves g = sentence_not_leaves (a && b) n later (v && w) (ap₂ ◌&&◌ e f) (ap not halves ∙ g)

    pub both_go : not w ≡ false → (x : ℕ) → x ≡ first_true later → x ≡ first_true ((not (a && b), n) ∷ later)
    both_go g x = sentence_not_goes (a && b) n later x (v && w) (ap₂ ◌&&◌ e f) (ap not halves ∙ g)

-- ---- no refusal

-- the numbers are from 1 to 255
unfoldable pub numbered : List Sentence → Bool
numbered [] = true
numbered (c ∷ cs) = ltb 0 c.1 && (ltb c.1 256 && numbered cs)

-- the test of the sentence with this number
unfoldable pub test_of : List Sentence → ℕ → Bool
test_of [] n = false
test_of (c ∷ cs) n = cond (eqb c.1 n) c.0 (test_of cs n)

one_passed : (test : Bool) (n : ℕ) (later : List Sentence) → 0 < n → first_true ((test, n) ∷ later) ≡ 0 → (test ≡ false) × (first_true later ≡ 0)
unfolding first_true
one_passed true n later l e = absurd (omega arith)
one_passed false n later l e = (refl, e)

-- sentences of which none refused: each test was false
pub passed : (cs : List Sentence) → numbered cs ≡ true → first_true cs ≡ 0 → (n : ℕ) → test_of cs n ≡ false
unfolding numbered test_of
passed [] g e n = refl
passed (c ∷ cs) g e n =
    let p = one_passed c.0 c.1 cs (ltb-true 0 c.1 (and_left _ _ g)) e in
    let q = passed cs (and_right (ltb c.1 256) _ (and_right (ltb 0 c.1) _ g)) p.1 n in
    both (eqb c.1 n) c.0 (test_of cs n) p.0 q
  where
    both : (b t u : Bool) → t ≡ false → u ≡ false → cond b t u ≡ false
    both true t u e f = e
    both false t u e f = f

-- and back, sentence by sentence
pub skipped : (test : Bool) (n : ℕ) (later : List Sentence) → test ≡ false → first_true ((test, n) ∷ later) ≡ first_true later
unfolding first_true
skipped test n later e = ap (λ (b : Bool). cond b n (first_true later)) e

pub free : (test : Bool) (n : ℕ) (later : List Sentence) → test ≡ false → first_true later ≡ 0 → first_true ((test, n) ∷ later) ≡ 0
free test n later e z = skipped test n later e ∙ z

-- ---- the first sentences, then the others

pub sentences_refused : (cs later : List Sentence) (r : ℕ) → r ≡ first_true cs → (r ≡ 0 → ⊥) → r ≡ first_true (cs ++ later)
unfolding first_true
sentences_refused [] later r e nz = absurd (nz e)
sentences_refused (c ∷ cs) later r e nz = go c.0 (λ e. sentences_refused cs later r e nz) e
  where
    go : (b : Bool) → (r ≡ first_true cs → r ≡ first_true (cs ++ later)) → r ≡ cond b c.1 (first_true cs) → r ≡ cond b c.1 (first_true (cs ++ later))
    go true f e = e
    go false f e = f e

pub sentences_later : (cs later : List Sentence) → numbered cs ≡ true → (r x : ℕ) → r ≡ first_true cs → r ≡ 0 → x ≡ first_true later
    → x ≡ first_true (cs ++ later)
unfolding numbered
sentences_later [] later g r x e z q = q
sentences_later (c ∷ cs) later g r x e z q =
    let p = one_passed c.0 c.1 cs (ltb-true 0 c.1 (and_left _ _ g)) (sym e ∙ z) in
    sentence_goes c.0 c.1 (cs ++ later) x c.0 refl p.0
    (sentences_later cs later (and_right (ltb c.1 256) _ (and_right (ltb 0 c.1) _ g)) 0 x (sym p.1) refl q)

-- where the whole list refuses nothing, neither do the first sentences
pub first_free : (cs later : List Sentence) → first_true (cs ++ later) ≡ 0 → first_true cs ≡ 0
first_free cs later z = go (ℕ_discrete (first_true cs) 0)
  where
    go : Dec (first_true cs ≡ 0) → first_true cs ≡ 0
    go (yes e) = e
    go (no nz) = sentences_refused cs later (first_true cs) refl nz ∙ z

-- ---- the sentence that refused

-- no sentence of the list has this number
unfoldable pub lacks : ℕ → List Sentence → Bool
lacks n [] = true
lacks n (c ∷ cs) = not (eqb c.1 n) && lacks n cs

pub lacking : (n : ℕ) (cs : List Sentence) → 0 < n → lacks n cs ≡ true → first_true cs ≢ n
unfolding first_true lacks
lacking n [] some e q = omega arith
lacking n (c ∷ cs) some e q = go c.0 (lacking n cs some (and_right (not (eqb c.1 n)) _ e)) q
  where
    go : (b : Bool) → first_true cs ≢ n → cond b c.1 (first_true cs) ≢ n
    go true f q = not_both (eqb c.1 n) (eq-eqb c.1 n q) (not-true _ (and_left _ _ e))
    go false f q = f q

-- refused by the number of one sentence, which no other has: its test is true, and none before it
pub stopped : (pre : List Sentence) (test : Bool) (n : ℕ) (post : List Sentence) → 0 < n → lacks n pre ≡ true → lacks n post ≡ true
    → first_true (pre ++ ((test, n) ∷ post)) ≡ n → (first_true pre ≡ 0) × (test ≡ true)
unfolding first_true lacks
stopped [] true n post some e f q = (refl, refl)
stopped [] false n post some e f q = absurd (lacking n post some f q)
stopped (c ∷ cs) test n post some e f q = go c.0 (stopped cs test n post some (and_right (not (eqb c.1 n)) _ e) f) q
  where
    go : (b : Bool) → (first_true (cs ++ ((test, n) ∷ post)) ≡ n → (first_true cs ≡ 0) × (test ≡ true))
        → cond b c.1 (first_true (cs ++ ((test, n) ∷ post))) ≡ n → (cond b c.1 (first_true cs) ≡ 0) × (test ≡ true)
    go true g q = absurd (not_both (eqb c.1 n) (eq-eqb c.1 n q) (not-true _ (and_left _ _ e)))
    go false g q = g q

-- ---- a refusal is a byte

pub sentences_below : (cs : List Sentence) → numbered cs ≡ true → first_true cs < 256
unfolding first_true numbered
sentences_below [] g = omega arith
sentences_below (c ∷ cs) g =
    let h = and_right (ltb 0 c.1) _ g in
    go c.0 (ltb-true c.1 256 (and_left _ _ h)) (sentences_below cs (and_right (ltb c.1 256) _ h))
  where
    go : (b : Bool) → c.1 < 256 → first_true cs < 256 → cond b c.1 (first_true cs) < 256
    go true h l = h
    go false h l = l
