-- The places and steps of a path, as the code reads them. Assumes nothing.
use Prim.Native.Nat.{ℕ, ◌+◌, ◌-◌, ◌≤◌, ◌<◌}
use mathlib.Core.Path.{◌≡◌, sym, ap, subst, ◌∙◌}
use mathlib.Core.Bool.{Bool, true, false, not}
use native.Mathlib.Omega.{arith}
use Rattle.std.specs.Prelude.{Option, None, Some, IfNone, IfSome}
use Rattle.std.specs.Option.{MatchOption}
use Rattle.model.specs.Loops.{all_below, first_below}
use Rattle.model.proofs.Loops.{all_of, first_unique}
use mathlib.Core.List.{List}
use Rattle.model.specs.Image.{byte_at}
use Rattle.model.specs.Nodes.{is_node}
use Rattle.model.specs.Traces.{place_count, place_at, place_named, may_go, step_allowed}
use Rattle.model.proofs.Status.{IsNode}
use Rattle.traces.specs.Paths.{Stands, PathNamed, unnamed, forbidden}

module _ (trace : List ℕ) (p at n : ℕ) (S : Stands trace p at n) where
  read : (k : ℕ) → byte_at trace (at + 1 + k) ≡ place_at trace p k
  read k = ap (λ (a : ℕ). byte_at trace (a + 1 + k)) S.at

  -- `find` over the places: r is the first that has no node, or none
  pub places_found : (s : List ℕ) (r : Option ℕ)
      → MatchOption r ((k : ℕ) → 0 ≤ k → k < n → is_node s (byte_at trace (at + 1 + k)) ≡ true) (λ i. (0 ≤ i) × (i < n) × (is_node s (byte_at trace (at + 1 + i)) ≡ false) × ((k : ℕ) → 0 ≤ k → k < i → is_node s (byte_at trace (at + 1 + k)) ≡ true))
      → IfNone r (all_below n (place_named s trace p) ≡ true) × IfSome r (λ k. (k < n) × (k ≡ first_below n (unnamed s trace p)))
  unfolding place_named
  places_found s None h = (all_of n _ (λ k l. sym (ap (is_node s) (read k)) ∙ h k (omega arith) l), tt)
  places_found s (Some i) h = (
    tt,
    (
      h.1,
      first_unique n _ i
          (record {
            within = omega (arith, h.1);
            before = λ k l. ap not (sym (ap (is_node s) (read k)) ∙ h.3 k (omega arith) l);
            holds = λ l. ap not (sym (ap (is_node s) (read i)) ∙ h.2);
          }),
    ),
  )

  pub step_judged : (s t : List ℕ) (k u v z : ℕ) (b : Bool) → u ≡ byte_at trace (at + 1 + k) → v ≡ byte_at trace (at + 1 + (k + 1))
      → z ≡ byte_at trace (at + 1 + (n - 1)) → b ≡ may_go s t u v z → not b ≡ forbidden s t trace p k
  unfolding step_allowed
  step_judged s t k u v z b eu ev ez e =
      let to : n - 1 ≡ place_count trace p - 1 = ap (λ (n : ℕ). n - 1) S.places in
      cc (e, eu, read k, ev, read (k + 1), ez, read (n - 1))
