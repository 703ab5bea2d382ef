-- Once nobody else shares the low digits of x nothing is added at the levels above. Assumes nothing.
use Prim.Native.Nat.{ℕ, suc, ◌+◌, ◌≤◌, ◌<◌}
use mathlib.Core.Path.{◌≡◌, refl, sym, ap, subst, ◌∙◌}
use mathlib.Core.List.{List}
use native.Mathlib.Nat.{le_refl}
use native.Mathlib.Numerals.{add-one}
use native.Mathlib.Decide.{le_ind}
use native.Mathlib.Omega.{arith}
use Rattle.model.specs.Loops.{each_below}
use Rattle.model.specs.Memory.{base, digits, add_node}
use Rattle.model.specs.Fill.{Filling, short_by, fill_once, fill_entry, fill_level, fill_node}
use Rattle.model.proofs.Loops.{each_keeps}
use Rattle.model.proofs.Status.{IsNode}
use Rattle.model.proofs.Filling.{Steady, fills_levels}
use Rattle.consistency.specs.NodeSets.{Sharing}
use Rattle.consistency.proofs.Alone.{none_short}
use Rattle.filling.specs.Sofar.{Listed}

module _ (s : List ℕ) (x : ℕ) (nx : IsNode s x) (i S : ℕ) (sh : Sharing s x (i + 1) S) (e : S ≡ add_node 0 x) where
  -- so nothing is added there
  level_none : (m : ℕ) → i < m → m < digits s → (f : Filling) → Steady s f.tables → fill_level s x m f ≡ f
  unfolding fill_level fill_entry each_below
  level_none m above hm f w =
      each_keeps (λ (g : Filling). g ≡ f) (base s) (fill_entry s x m) f refl
      (λ j g hj q.
      let z : short_by s g.tables x m j ≡ 0 = ap (λ (g : Filling). short_by s g.tables x m j) q ∙ none_short s x nx i S sh e m j above f.tables w.sound hm in
      ap (λ (n : ℕ). each_below n (fill_once s x m j) g) z ∙ q)

  levels_none : (f : Filling) → Steady s f.tables → i < digits s → each_below (digits s) (fill_level s x) f ≡ each_below (i + 1) (fill_level s x) f
  unfolding each_below
  levels_none f w hi =
      rw (add-one i)
      (le_ind (λ (m : ℕ). m ≤ digits s → each_below m (fill_level s x) f ≡ each_below (suc i) (fill_level s x) f) (λ h. refl)
      (λ m g ih h.
      level_none m g h (each_below m (fill_level s x) f) (fills_levels s x nx f w m (omega arith)).steady ∙ ih (omega arith))
      (digits s) hi (le_refl (digits s)))

  pub node_alone : (f : Filling) → Steady s f.tables → i < digits s → (o : List ℕ) (at : ℕ) (u p : List ℕ) (r : ℕ)
      → Listed o at (each_below (i + 1) (fill_level s x) f) u p r → Listed o at (fill_node s x f) u p r
  unfolding fill_node
  node_alone f w hi o at u p r = subst (λ (g : Filling). Listed o at g u p r) (sym (levels_none f w hi))
