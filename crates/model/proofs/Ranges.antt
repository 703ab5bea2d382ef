-- Tests of numbers, and of nodes, as a chain over a range makes them. Assumes nothing.
use Rattle.std.proofs.Common.{ℕ, List, Option, ◌≡◌, ◌+◌, sym, ap, ap₂, ◌∙◌, refl, Bool, true, false, arith}
use Rattle.std.specs.List.{range_with_len, list_all, FoldsTo}
use Rattle.std.specs.Option.{MatchOption}
use Rattle.std.specs.Iterator.{YieldsThen}
use Rattle.std.specs.Fn.{Called}
use Rattle.std.proofs.iter.Yields.{nat_range_steps}
use Rattle.std.proofs.lemmas.Iterator.{YieldsList-from_range}
use Rattle.std.proofs.lemmas.Iterator.Search.{all_from_yields_List}
use denote.Param.Members.{Mut}
use Prim.Native.Nat.{zero, suc}
use mathlib.Core.Bool.{◌&&◌, and_assoc, and-true}
use mathlib.Core.Path.{fun_ext}
use Rattle.model.specs.Loops.{all_below, node}

all_front : (n : ℕ) (f : ℕ → Bool) → (f 0 && all_below n (λ k. f (suc k))) ≡ all_below (suc n) f
unfolding all_below
all_front zero f = and-true (f 0)
all_front (suc n) f = sym (and_assoc (f 0) _ _) ∙ ap (λ b. b && f (suc n)) (all_front n f)

all_from : (a n : ℕ) (f : ℕ → Bool) → list_all f (range_with_len a n) ≡ all_below n (λ k. f (a + k))
unfolding all_below
all_from a zero f = refl
all_from a (suc n) f =
    let here : f a ≡ f (a + 0) = ap f (omega arith) in
    let there : list_all f (range_with_len (a + 1) n) ≡ all_below n (λ k. f (a + suc k)) =
    all_from (a + 1) n f ∙ ap (all_below n) (fun_ext (λ k. ap f (omega arith))) in
    ap₂ ◌&&◌ here there ∙ all_front n (λ k. f (a + k))

pub list_all_range : (n : ℕ) (f : ℕ → Bool) → list_all f (range_with_len 0 n) ≡ all_below n f
list_all_range n f = all_from 0 n f ∙ ap (all_below n) (fun_ext (λ k. ap f (omega arith)))

-- `(0..n).all(..)`, of which each call computes the test f of its number: ran and calls are what the chain's clauses say
pub all_of_range : {F : Type 0} {g : Mut F (ℕ × Unit {0}) Bool} (u : _) (c : F) (n m : ℕ) (f : ℕ → Bool) (r : Bool)
    → (xs : List ℕ) × (o : Option ℕ) × (j : F) × YieldsThen nat_range_steps (record { start = 0; end = n }) xs o u × FoldsTo (λ p x q. Called g p (x, tt) true q) c xs j × MatchOption o (r ≡ true) (λ x. (r ≡ false) × ((h : F) × Called g j (x, tt) false h))
    → n ≡ m → ((x : ℕ) (b : Bool) (q : F) → Called g c (x, tt) b q → (q ≡ c) × (b ≡ f x)) → r ≡ all_below m f
all_of_range u c n m f r ran e calls =
    all_from_yields_List f u c r ran (YieldsList-from_range 0 n n refl (omega arith)) calls ∙ list_all_range n f ∙ ap (λ k. all_below k f) e

-- the same of the nodes' numbers, from 1 on
pub all_of_nodes : {F : Type 0} {g : Mut F (ℕ × Unit {0}) Bool} (u : _) (c : F) (n m : ℕ) (f : ℕ → Bool) (r : Bool)
    → (xs : List ℕ) × (o : Option ℕ) × (j : F) × YieldsThen nat_range_steps (record { start = 1; end = n + 1 }) xs o u × FoldsTo (λ p x q. Called g p (x, tt) true q) c xs j × MatchOption o (r ≡ true) (λ x. (r ≡ false) × ((h : F) × Called g j (x, tt) false h))
    → n ≡ m → ((x : ℕ) (b : Bool) (q : F) → Called g c (x, tt) b q → (q ≡ c) × (b ≡ f x)) → r ≡ all_below m (node f)
all_of_nodes u c n m f r ran e calls =
    all_from_yields_List f u c r ran (YieldsList-from_range 1 (n + 1) n refl (omega arith)) calls
    ∙ all_from 1 n f
    ∙ ap (all_below n) (fun_ext (λ k. ap f (omega arith)))
    ∙ ap (λ k. all_below k (node f)) e
