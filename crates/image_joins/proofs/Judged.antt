-- A join as the code judges it, one test after the other. Assumes nothing.
use Prim.Native.Nat.{ℕ, ◌-◌}
use mathlib.Core.Path.{◌≡◌, sym, ap, ap₂, ◌∙◌}
use mathlib.Core.Bool.{Bool, true, false, not, ◌&&◌, ◌||◌}
use mathlib.Core.List.{List}
use lib.Dec.{eqb, leb, ltb}
use borrow.Author.Tests.{eq-eqb, ne_eqb}
use Rattle.model.specs.Memory.{in_system}
use Rattle.model.specs.Image.{im_is_node, join_number, join_status, join_listed}
use Rattle.model.proofs.Bools.{and_leaves, and_goes}
use Rattle.model.proofs.Early.{true_goes, false_leaves}
use Rattle.image_fields.specs.declared.header.Header.{Header}
use Rattle.image_fields.specs.Parts.{Headed}
use Rattle.image_joins.specs.declared.joins.Join.{Join}
use Rattle.image_joins.specs.Sections.{JoinOf}

module _ (im : List ℕ) (h : Header) (w : Headed im h) (q : ℕ) (j : Join) (o : JoinOf im q j)
    (a : Bool) (ea : a ≡ (leb 1 j.node && leb j.node h.nodes)) where
  node_is : a ≡ im_is_node im (join_number im q)
  node_is = ea ∙ ap₂ (λ (y m : ℕ). leb 1 y && leb y m) o.node w.nodes

  pub no_node_leaves : not a ≡ true → false ≡ join_listed im q
  unfolding join_listed
  no_node_leaves g = and_leaves _ _ a node_is g

  module _ (g : not a ≡ false) where
    past_node : (s : Bool) → s ≡ (not (eqb (join_status im q) in_system) && (eqb q 0 || ltb (join_number im (q - 1)) (join_number im q)))
        → s ≡ join_listed im q
    unfolding join_listed
    past_node s e = and_goes _ _ a s node_is g e

    pub in_system_leaves : j.status ≡ 0 → (s : Bool) → s ≡ false → s ≡ join_listed im q
    in_system_leaves z s e = e ∙ past_node false (false_leaves _ _ (ap not (eq-eqb (join_status im q) 0 (sym o.status ∙ z))))

    module _ (nz : j.status ≡ 0 → ⊥) where
      past_status : (s : Bool) → s ≡ (eqb q 0 || ltb (join_number im (q - 1)) (join_number im q)) → s ≡ join_listed im q
      past_status s e = past_node s (true_goes _ _ s (ap not (ne_eqb (join_status im q) 0 (λ z. nz (o.status ∙ z)))) e)

      pub later_listed : (s : Bool) → s ≡ (eqb q 0 || ltb (join_number im (q - 1)) j.node) → s ≡ join_listed im q
      later_listed s e = past_status s (e ∙ ap (λ (n : ℕ). eqb q 0 || ltb (join_number im (q - 1)) n) o.node)
