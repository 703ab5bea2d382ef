-- Laws of the first fault: what it says where there is one and where there is none, and how it goes on
-- from path to path. Assumes nothing.
use Prim.Native.Nat.{ℕ, ◌+◌, ◌<◌}
use mathlib.Core.Path.{◌≡◌, sym, ap, subst, ◌∙◌}
use mathlib.Core.Logic.{◌⊎◌, inl, inr}
use mathlib.Core.Bool.{Bool, true, false, cond, not, true≢false}
use mathlib.Core.List.{[], ◌∷◌}
use native.Mathlib.Omega.{arith}
use Rattle.std.specs.Prelude.{Option, None, Some}
use Rattle.model.specs.Loops.{first_below}
use Rattle.model.specs.Traces.{in_path, in_paths, first_fault}
use Rattle.model.proofs.Loops.{all_zero_lem, all_step, all_at, all_false, first_before, first_holds, first_unique, first_short_lem, first_fails}
use Rattle.model.proofs.Bools.{true_or_false, and_intro}
use Rattle.traces.specs.Faults.{fault_in}
use Rattle.traces.specs.declared.fault.Fault.{Fault}

-- whether there is a fault, and which
is_some : Option Fault → Bool
is_some None = false
is_some (Some f) = true

some_of : Fault → Option Fault → Fault
some_of f None = f
some_of f (Some g) = g

pub none_some : {f : Fault} {o : Option Fault} → o ≡ Some f → o ≡ None → ⊥
unfolding is_some
none_some e q = true≢false (ap is_some (sym e ∙ q))

module _ (size : ℕ → ℕ) (test : ℕ → ℕ → Bool) where
  abbrev fails : ℕ → Bool
  fails p = not (in_path size test p)

  abbrev first_path : ℕ → ℕ
  first_path n = first_below n fails

  abbrev found : ℕ → Fault
  found p = record { path = p + 1; place = first_below (size p) (λ k. not (test p k)) + 1 }

  is_found : (n : ℕ) → in_paths n size test ≡ false → fault_in n size test ≡ Some (found (first_path n))
  unfolding fault_in first_fault
  is_found n e = ap (λ (b : Bool). cond b None (Some (found (first_path n)))) e

  is_absent : (n : ℕ) → in_paths n size test ≡ true → fault_in n size test ≡ None
  unfolding fault_in first_fault
  is_absent n e = ap (λ (b : Bool). cond b None (Some (found (first_path n)))) e

  -- before the first path
  pub fault_zero : None ≡ fault_in 0 size test
  fault_zero = sym (is_absent 0 (all_zero_lem (in_path size test)))

  -- there is none exactly where the test holds in every path
  pub none_fails : (n : ℕ) → fault_in n size test ≡ None → in_paths n size test ≡ true
  none_fails n none = go (true_or_false (in_paths n size test))
    where
      go : (in_paths n size test ≡ true) ⊎ (in_paths n size test ≡ false) → in_paths n size test ≡ true
      go (inl e) = e
      go (inr e) = absurd (none_some (is_found n e) none)

  pub none_faulty : (n : ℕ) → in_paths n size test ≡ true → fault_in n size test ≡ None
  none_faulty = is_absent

  -- where there is one, it does not, and this is where it first fails
  module _ (n : ℕ) (f : Fault) (some : fault_in n size test ≡ Some f) where
    pub some_fails : in_paths n size test ≡ false
    some_fails = go (true_or_false (in_paths n size test))
      where
        go : (in_paths n size test ≡ true) ⊎ (in_paths n size test ≡ false) → in_paths n size test ≡ false
        go (inl e) = absurd (none_some some (is_absent n e))
        go (inr e) = e

    is_first : f ≡ found (first_path n)
    unfolding some_of
    is_first = ap (some_of f) (sym some ∙ is_found n some_fails)

    pub fault_first : f.path ∷ f.place ∷ [] ≡ first_fault n size test
    unfolding first_fault
    fault_first = ap (λ (f : Fault). f.path ∷ f.place ∷ []) is_first

    -- no later path changes it
    pub fault_kept : Some f ≡ fault_in (n + 1) size test
    fault_kept =
        let l = first_fails n (in_path size test) some_fails in
        let same : first_path n ≡ first_path (n + 1) =
        first_unique (n + 1) fails (first_path n)
        (record { within = omega arith; before = first_before n fails; holds = λ h. first_holds n fails l }) in
        ap Some (is_first ∙ ap found same)
        ∙ sym (is_found (n + 1) (first_short_lem (n + 1) (in_path size test) (omega arith)))

  -- the next path brings the first, or brings none
  module _ (n : ℕ) (none : fault_in n size test ≡ None) where
    pub fault_none : in_path size test n ≡ true → None ≡ fault_in (n + 1) size test
    fault_none q =
        sym (is_absent (n + 1) (all_step n (in_path size test) ∙ and_intro _ _ (none_fails n none) q))

    pub fault_next : (k : ℕ) → k < size n → k ≡ first_below (size n) (λ k. not (test n k)) → Some (record { path = n + 1; place = k + 1 }) ≡ fault_in (n + 1) size test
    unfolding in_path
    fault_next k l e =
        let q : in_path size test n ≡ false = first_short_lem (size n) (test n) (subst (λ (k : ℕ). k < size n) e l) in
        let here : n ≡ first_path (n + 1) =
        first_unique (n + 1) fails n
        (record { within = omega arith; before = λ p h. ap not (all_at n (in_path size test) (none_fails n none) p h); holds = λ h. ap not q }) in
        ap (λ (k : ℕ). Some (record { path = n + 1; place = k + 1 })) e
        ∙ ap (λ (p : ℕ). Some (found p)) here
        ∙ sym (is_found (n + 1) (all_false (n + 1) (in_path size test) n (omega arith) q))
