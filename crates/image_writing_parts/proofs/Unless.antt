-- Laws of putting bytes unless a number is zero: the record of a slot, and the join of a node. Assumes nothing.
use Prim.Native.Nat.{ℕ, ◌+◌, ◌≤◌}
use mathlib.Core.Path.{◌≡◌, sym, ap, subst}
use mathlib.Core.Bool.{Bool, cond}
use mathlib.Core.List.{List, []}
use native.Mathlib.Omega.{arith}
use lib.Dec.{eqb}
use lib.ListN.{length}
use borrow.Author.Tests.{eq-eqb, ne_eqb}
use Rattle.putting.specs.Put.{Put}
use Rattle.putting.proofs.Putting.{put_none}

module _ (u : ℕ) (bs : List ℕ) where
  none : u ≡ 0 → cond (eqb u 0) [] bs ≡ []
  none e = ap (λ (b : Bool). cond b [] bs) (eq-eqb u 0 e)

  some : (u ≡ 0 → ⊥) → cond (eqb u 0) [] bs ≡ bs
  some h = ap (λ (b : Bool). cond b [] bs) (ne_eqb u 0 h)

  module _ (o : List ℕ) (a : ℕ) where
    pub unless_none : a + length (cond (eqb u 0) [] bs) ≤ length o → u ≡ 0 → Put o a (cond (eqb u 0) [] bs) o a
    unless_none f e = subst (λ (bs : List ℕ). Put o a bs o a) (sym (none e)) (put_none o a (omega arith))

    pub unless_room : a + length (cond (eqb u 0) [] bs) ≤ length o → (u ≡ 0 → ⊥) → a + length bs ≤ length o
    unless_room f h = omega (arith, ap length (some h))

    pub unless_some : (p : List ℕ) (e : ℕ) → (u ≡ 0 → ⊥) → Put o a bs p e → Put o a (cond (eqb u 0) [] bs) p e
    unless_some p e h P = subst (λ (bs : List ℕ). Put o a bs p e) (sym (some h)) P
