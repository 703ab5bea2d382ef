-- Laws of a list of what is picked below a number: f q for each q at which a test holds. Assumes nothing.
use Prim.Native.Nat.{ℕ, zero, suc, ◌+◌, ◌<◌}
use mathlib.Core.Path.{◌≡◌, refl, sym, ap, ◌∙◌}
use mathlib.Core.Bool.{Bool, true, false, cond}
use mathlib.Core.List.{List, [], ◌∷◌, ◌++◌}
use native.Mathlib.Decide.{dec_lt}
use native.Mathlib.Omega.{arith}
use lib.ListN.{length, get_or, length-append, get_or-append}
use lib.Seq.{get_or-append-add}
use Rattle.model.specs.Loops.{join_below, count_below}
use Rattle.model.proofs.Loops.{count_some}
use Rattle.model.proofs.Bools.{back_false}

abbrev pub pick : (ℕ → Bool) → (ℕ → ℕ) → ℕ → List ℕ
pick test f q = cond (test q) (f q ∷ []) []

abbrev pub picked : ℕ → (ℕ → Bool) → (ℕ → ℕ) → List ℕ
picked n test f = join_below n (pick test f)

-- where the k-th of the picked comes from
pub record Origin (n : ℕ) (test : ℕ → Bool) (f : ℕ → ℕ) (v : ℕ) : Type 0 where
  pub index : ℕ
  pub within : index < n
  pub holds : test index ≡ true
  pub is : f index ≡ v

-- the same of the first: no earlier index has the test
pub record Earliest (n : ℕ) (test : ℕ → Bool) (f : ℕ → ℕ) (v : ℕ) : Type 0 where
  pub index : ℕ
  pub within : index < n
  pub holds : test index ≡ true
  pub is : f index ≡ v
  pub before : (q : ℕ) → q < index → test q ≡ false

module _ (test : ℕ → Bool) (f : ℕ → ℕ) where
  pub picked_length : (n : ℕ) → length (picked n test f) ≡ count_below n test
  unfolding join_below count_below
  picked_length zero = refl
  picked_length (suc n) = length-append (picked n test f) (pick test f n) ∙ go (test n) (picked_length n)
    where
      go : (b : Bool) → length (picked n test f) ≡ count_below n test → length (picked n test f) + length (cond b (f n ∷ []) []) ≡ count_below n test + cond b 1 0
      go true e = ap (λ (m : ℕ). m + 1) e
      go false e = ap (λ (m : ℕ). m + 0) e

  -- one index more: what is new is picked there
  newest : (n k : ℕ) → (k < length (picked n test f) → ⊥) → k < length (picked n test f ++ pick test f n)
      → (test n ≡ true) × (get_or (picked n test f ++ pick test f n) k 0 ≡ f n)
  newest n k g h =
      go (test n) refl (omega (arith, h, length-append (picked n test f) (pick test f n)))
    where
      go : (b : Bool) → test n ≡ b → k < length (picked n test f) + length (cond (test n) (f n ∷ []) [])
          → (test n ≡ true) × (get_or (picked n test f ++ pick test f n) k 0 ≡ f n)
      go true e l =
          let one : length (pick test f n) ≡ 1 = ap (λ (b : Bool). length (cond b (f n ∷ []) [])) e in
          let q : k ≡ length (picked n test f) + 0 = omega (arith, one, l) in (
            e,
            ap (λ (m : ℕ). get_or (picked n test f ++ pick test f n) m 0) q
                ∙ get_or-append-add (picked n test f) (pick test f n) 0 0
                ∙ ap (λ (b : Bool). get_or (cond b (f n ∷ []) []) 0 0) e,
          )
      go false e l =
          let none : length (pick test f n) ≡ 0 = ap (λ (b : Bool). length (cond b (f n ∷ []) [])) e in
          absurd (omega (arith, none, l))

  pub picked_origin : (n k : ℕ) → k < length (picked n test f) → Origin n test f (get_or (picked n test f) k 0)
  unfolding join_below
  picked_origin zero k h = absurd (omega arith)
  picked_origin (suc n) k h = go (dec_lt k (length (picked n test f))) (picked_origin n k)
    where
      go : Dec (k < length (picked n test f)) → (k < length (picked n test f) → Origin n test f (get_or (picked n test f) k 0))
          → Origin (suc n) test f (get_or (picked n test f ++ pick test f n) k 0)
      go (yes l) ih =
          let o = ih l in
          rw (get_or-append (picked n test f) (pick test f n) 0 k l)
          (record { index = o.index; within = omega (arith, o.within); holds = o.holds; is = o.is })
      go (no g) ih = let w = newest n k g h in record { index = n; within = omega arith; holds = w.0; is = sym w.1 }

  -- the first of the picked comes from the first index at which the test holds
  pub picked_first : (n : ℕ) → 0 < length (picked n test f) → Earliest n test f (get_or (picked n test f) 0 0)
  unfolding join_below
  picked_first zero h = absurd (omega arith)
  picked_first (suc n) h = go (dec_lt 0 (length (picked n test f))) (picked_first n)
    where
      go : Dec (0 < length (picked n test f)) → (0 < length (picked n test f) → Earliest n test f (get_or (picked n test f) 0 0))
          → Earliest (suc n) test f (get_or (picked n test f ++ pick test f n) 0 0)
      go (yes l) ih =
          let o = ih l in
          rw (get_or-append (picked n test f) (pick test f n) 0 0 l)
          (record { index = o.index; within = omega (arith, o.within); holds = o.holds; is = o.is; before = o.before })
      go (no g) ih =
          let w = newest n 0 g h in
          record {
            index = n;
            within = omega arith;
            holds = w.0;
            is = sym w.1;
            before = λ q l. back_false (test q) false (λ t. absurd (g (omega (arith, count_some n test q l t, picked_length n)))) refl;
          }
