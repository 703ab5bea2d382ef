-- The first record that fails a test, as the code keeps it while it reads. Assumes nothing.
use Prim.Native.Nat.{ℕ, zero, suc, ◌+◌, ◌<◌}
use mathlib.Core.Path.{◌≡◌, refl, sym, ap, ap₂, ◌∙◌}
use mathlib.Core.Logic.{◌⊎◌, inl, inr}
use mathlib.Core.Bool.{Bool, true, false, ◌&&◌}
use mathlib.Core.List.{List}
use native.Mathlib.Numerals.{add-one}
use native.Mathlib.Omega.{arith}
use native.Mathlib.Nat.{le_antisymm}
use Rattle.std.specs.Prelude.{Option, None, Some}
use Rattle.model.specs.Loops.{all_below}
use Rattle.model.specs.Image.{im_records}
use Rattle.model.specs.Refusals.{first_failing}
use Rattle.model.proofs.Bools.{not_both}
use Rattle.model.proofs.Loops.{le_of_not_lt, all_at, all_false}
use Rattle.model.proofs.Places.{failing_is}
use Rattle.image_judging.specs.Faults.{noted, fault_below}

pub fault_zero : (test : ℕ → Bool) → fault_below 0 test ≡ None
unfolding fault_below
fault_zero test = refl

fault_step : (n : ℕ) (test : ℕ → Bool) → fault_below (n + 1) test ≡ noted (fault_below n test) (test n) (n + 1)
unfolding fault_below
fault_step n test = rw add-one

-- one record more
pub fault_next : (n : ℕ) (test : ℕ → Bool) (p : Option ℕ) (good : Bool) → p ≡ fault_below n test → good ≡ test n
    → noted p good (n + 1) ≡ fault_below (n + 1) test
fault_next n test p good e q = ap₂ (λ (p : Option ℕ) (good : Bool). noted p good (n + 1)) e q ∙ sym (fault_step n test)

-- ---- what a place says

-- the place is that of the first index below n that fails
record Failing (n : ℕ) (test : ℕ → Bool) (place : Option ℕ) : Type 0 where
  index : ℕ
  is : place ≡ Some (index + 1)
  within : index < n
  before : all_below index test ≡ true
  fails : test index ≡ false

abbrev Fault : ℕ → (ℕ → Bool) → Option ℕ → Type 0
Fault n test place = ((all_below n test ≡ true) × (place ≡ None)) ⊎ Failing n test place

fault_is : (n : ℕ) (test : ℕ → Bool) → Fault n test (fault_below n test)
unfolding fault_below all_below
fault_is zero test = inl (refl, refl)
fault_is (suc n) test = go (test n) refl (fault_is n test)
  where
    go : (good : Bool) → test n ≡ good → Fault n test (fault_below n test) → Fault (suc n) test (noted (fault_below n test) (test n) (suc n))
    go true g (inl (a, z)) =
        inl (ap₂ ◌&&◌ a g, ap₂ (λ (p : Option ℕ) (good : Bool). noted p good (suc n)) z g)
    go false g (inl (a, z)) =
        inr (record {
          index = n;
          is = ap₂ (λ (p : Option ℕ) (good : Bool). noted p good (suc n)) z g ∙ ap Some (sym (add-one n));
          within = omega arith;
          before = a;
          fails = g;
        })
    go good g (inr f) =
        inr (record {
          index = f.index;
          is = ap (λ (p : Option ℕ). noted p (test n) (suc n)) f.is;
          within = omega (arith, f.within);
          before = f.before;
          fails = f.fails;
        })

pub none_some : (k : ℕ) → None ≡ Some k → ⊥
none_some k e = Prim.cc e

some_is : {a b : ℕ} → Some a ≡ Some b → a ≡ b
some_is e = Prim.cc e

-- no place, no record that fails
pub fault_none : (n : ℕ) (test : ℕ → Bool) (p : Option ℕ) → p ≡ fault_below n test → p ≡ None → all_below n test ≡ true
fault_none n test p e z = go (fault_is n test)
  where
    go : Fault n test (fault_below n test) → all_below n test ≡ true
    go (inl a) = a.0
    go (inr f) = absurd (none_some _ (sym z ∙ e ∙ f.is))

pub none_fault : (n : ℕ) (test : ℕ → Bool) → all_below n test ≡ true → None ≡ fault_below n test
none_fault n test e = go (fault_is n test)
  where
    go : Fault n test (fault_below n test) → None ≡ fault_below n test
    go (inl a) = sym a.1
    go (inr f) = absurd (not_both (test f.index) (all_at n test e f.index f.within) f.fails)

-- a place is that of the first record of the image that fails
pub fault_some : (im : List ℕ) (test : ℕ → Bool) (p : Option ℕ) (place : ℕ) → p ≡ fault_below (im_records im) test → p ≡ Some place
    → (all_below (im_records im) test ≡ false) × (place ≡ first_failing im test)
fault_some im test p place e s = go (fault_is (im_records im) test)
  where
    go : Fault (im_records im) test (fault_below (im_records im) test) → (all_below (im_records im) test ≡ false) × (place ≡ first_failing im test)
    go (inl a) = absurd (none_some _ (sym (sym s ∙ e ∙ a.1)))
    go (inr f) = (
      all_false (im_records im) test f.index f.within f.fails,
      some_is (sym s ∙ e ∙ f.is) ∙ failing_is im test f.index f.within f.before f.fails,
    )

pub fault_here : (n : ℕ) (test : ℕ → Bool) (r : ℕ) → r < n → all_below r test ≡ true → test r ≡ false → Some (r + 1) ≡ fault_below n test
fault_here n test r l e q = go (fault_is n test)
  where
    go : Fault n test (fault_below n test) → Some (r + 1) ≡ fault_below n test
    go (inl a) = absurd (not_both (test r) (all_at n test a.0 r l) q)
    go (inr f) =
        let same : r ≡ f.index =
        le_antisymm (le_of_not_lt (λ g. not_both (test f.index) (all_at r test e f.index g) f.fails))
        (le_of_not_lt (λ g. not_both (test r) (all_at f.index test f.before r g) q)) in
        ap (λ (k : ℕ). Some (k + 1)) same ∙ sym f.is
