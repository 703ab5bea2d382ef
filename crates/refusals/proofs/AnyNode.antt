-- A test of some node, as `(1..n + 1).any(..)` makes it. Assumes nothing.
use Rattle.std.proofs.Common.{ℕ, List, Option, ◌≡◌, ◌+◌, sym, ap, ap₂, ◌∙◌, refl, Bool, true, false, arith}
use Rattle.std.specs.List.{range_with_len, list_any, FoldsTo}
use Rattle.std.specs.Option.{MatchOption}
use Rattle.std.specs.Iterator.{YieldsThen}
use Rattle.std.specs.Fn.{Called}
use Rattle.std.proofs.iter.Yields.{nat_range_steps}
use Rattle.std.proofs.lemmas.Iterator.{YieldsList-from_range}
use Rattle.std.proofs.lemmas.Iterator.Search.{any_from_yields_List}
use denote.Param.Members.{Mut}
use Prim.Native.Nat.{zero, suc}
use mathlib.Core.Bool.{◌||◌}
use Rattle.std.proofs.Math.Bool.{or_assoc, or-false}
use mathlib.Core.Path.{fun_ext}
use Rattle.model.specs.Loops.{any_below, node}

any_front : (n : ℕ) (f : ℕ → Bool) → (f 0 || any_below n (λ k. f (suc k))) ≡ any_below (suc n) f
unfolding any_below
any_front zero f = or-false (f 0)
any_front (suc n) f = sym (or_assoc (f 0) _ _) ∙ ap (λ b. b || f (suc n)) (any_front n f)

any_from : (a n : ℕ) (f : ℕ → Bool) → list_any f (range_with_len a n) ≡ any_below n (λ k. f (a + k))
unfolding any_below
any_from a zero f = refl
any_from a (suc n) f =
    let here : f a ≡ f (a + 0) = ap f (omega arith) in
    let there : list_any f (range_with_len (a + 1) n) ≡ any_below n (λ k. f (a + suc k)) =
    any_from (a + 1) n f ∙ ap (any_below n) (fun_ext (λ k. ap f (omega arith))) in
    ap₂ ◌||◌ here there ∙ any_front n (λ k. f (a + k))

-- each call computes the test f of its number: ran and calls are what the chain's clauses say
pub any_of_nodes : {F : Type 0} {g : Mut F (ℕ × Unit {0}) Bool} (u : _) (c : F) (n m : ℕ) (f : ℕ → Bool) (r : Bool)
    → (xs : List ℕ) × (o : Option ℕ) × (j : F) × YieldsThen nat_range_steps (record { start = 1; end = n + 1 }) xs o u × FoldsTo (λ p x q. Called g p (x, tt) false q) c xs j × MatchOption o (r ≡ false) (λ x. (r ≡ true) × ((h : F) × Called g j (x, tt) true h))
    → n ≡ m → ((x : ℕ) (b : Bool) (q : F) → Called g c (x, tt) b q → (q ≡ c) × (b ≡ f x)) → r ≡ any_below m (node f)
any_of_nodes u c n m f r ran e calls =
    any_from_yields_List f u c r ran (YieldsList-from_range 1 (n + 1) n refl (omega arith)) calls
    ∙ any_from 1 n f
    ∙ ap (any_below n) (fun_ext (λ k. ap f (omega arith)))
    ∙ ap (λ k. any_below k (node f)) e
