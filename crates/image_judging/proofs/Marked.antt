-- The marks of own entries: one record more, and what all of them say. Assumes nothing.
use Prim.Native.Nat.{ℕ, ◌+◌, ◌-◌, ◌*◌, ◌≤◌, ◌<◌}
use mathlib.Core.Path.{◌≡◌, refl, sym, ap, ap₂, subst, ◌∙◌}
use mathlib.Core.Bool.{Bool, true, false, cond, ◌&&◌, ◌||◌, or-true, or-false, and-false}
use mathlib.Core.List.{List}
use native.Mathlib.Decide.{ℕ_discrete}
use native.Mathlib.Omega.{arith}
use lib.Dec.{eqb}
use lib.ListN.{length, get_or, set, replicate, length-set, length-replicate, get_or-replicate}
use lib.Seq.{get_or-set_same, get_or-set_other}
use borrow.Author.Tests.{eq-eqb, ne_eqb}
use Rattle.model.specs.Loops.{all_below, any_below, node}
use Rattle.model.specs.Image.{im_digits, im_nodes, im_records, rec_node, rec_level, rec_own, rec_of_own, own_has_record, own_have_records}
use Rattle.model.proofs.Bools.{and_intro}
use Rattle.model.proofs.Loops.{all_same, any_zero, any_step}
use Rattle.image_fields.specs.Parts.{CountsRight, Headed, ImageNode, RecordOf}
use Rattle.image_judging.specs.Judged.{RecordsNamed}
use Rattle.image_judging.specs.Marks.{own_place, is_marked, levels_marked, marked_by, Marks}
use Rattle.image_fields.specs.declared.header.Header.{Header}
use Rattle.image_fields.specs.declared.record.Record.{Record}
use Rattle.image_judging.proofs.Rules.{owner_node}

pub marks_none : (im : List ℕ) → Marks im 0 (replicate 512 0)
unfolding is_marked
marks_none im = record {
  whole = length-replicate {A = ℕ} 512 0;
  marked = λ x i a b h. ap (λ (v : ℕ). eqb v 1) (get_or-replicate 512 (own_place x i) 0 0 (omega arith)) ∙ sym (any_zero (rec_of_own im x i));
}

-- one record more
module _ (im : List ℕ) (r : ℕ) (own : List ℕ) (m : Marks im r own) (n : ImageNode im (rec_node im r)) (few : im_nodes im ≤ 64) (low : rec_level im r < 8) where
  abbrev place : ℕ
  place = own_place (rec_node im r) (rec_level im r)

  within : place < length own
  within = omega (arith, m.whole, n.first, n.last)

  whole : (b : Bool) → length (cond b (set own place 1) own) ≡ 512
  whole true = length-set own place 1 ∙ m.whole
  whole false = m.whole

  module _ (x i : ℕ) (a : 1 ≤ x) (b : x ≤ 64) (h : i < 8) where
    -- the record is of x's own entry of level i, or it is not
    of_other : (b : Bool) → rec_own im r ≡ b → (rec_node im r ≡ x → rec_level im r ≡ i → b ≡ false) → rec_of_own im x i r ≡ false
    of_other b e f = go (ℕ_discrete (rec_node im r) x) (ℕ_discrete (rec_level im r) i)
      where
        go : Dec (rec_node im r ≡ x) → Dec (rec_level im r ≡ i) → rec_of_own im x i r ≡ false
        go (no p) d = ap (λ (t : Bool). t && (eqb (rec_level im r) i && rec_own im r)) (ne_eqb _ _ p)
        go (yes p) (no q) =
            ap (λ (t : Bool). eqb (rec_node im r) x && (t && rec_own im r)) (ne_eqb _ _ q) ∙ and-false (eqb (rec_node im r) x)
        go (yes p) (yes q) =
            ap (λ (t : Bool). eqb (rec_node im r) x && (eqb (rec_level im r) i && t)) (e ∙ f p q)
            ∙ ap (λ (t : Bool). eqb (rec_node im r) x && t) (and-false (eqb (rec_level im r) i))
            ∙ and-false (eqb (rec_node im r) x)

    -- what stays as it was
    kept : (own' : List ℕ) → get_or own' (own_place x i) 0 ≡ get_or own (own_place x i) 0 → rec_of_own im x i r ≡ false
        → is_marked own' x i ≡ (any_below r (rec_of_own im x i) || rec_of_own im x i r)
    unfolding is_marked
    kept own' e q =
        ap (λ (v : ℕ). eqb v 1) e
        ∙ m.marked x i a b h
        ∙ sym (or-false (any_below r (rec_of_own im x i)))
        ∙ ap (λ (t : Bool). any_below r (rec_of_own im x i) || t) (sym q)

    set_mark : rec_own im r ≡ true → is_marked (set own place 1) x i ≡ (any_below r (rec_of_own im x i) || rec_of_own im x i r)
    unfolding is_marked
    set_mark e = go (ℕ_discrete place (own_place x i))
      where
        go : Dec (place ≡ own_place x i) → is_marked (set own place 1) x i ≡ (any_below r (rec_of_own im x i) || rec_of_own im x i r)
        go (yes p) =
            let px : rec_node im r ≡ x = omega (arith, n.first) in
            let pi : rec_level im r ≡ i = omega (arith, n.first) in
            ap (λ (k : ℕ). eqb (get_or (set own place 1) k 0) 1) (sym p)
            ∙ ap (λ (v : ℕ). eqb v 1) (get_or-set_same own place 1 0 within)
            ∙ sym (or-true (any_below r (rec_of_own im x i)))
            ∙ ap (λ (t : Bool). any_below r (rec_of_own im x i) || t)
            (sym (and_intro _ _ (eq-eqb _ _ px) (and_intro _ _ (eq-eqb _ _ pi) e)))
        go (no p) =
            kept (set own place 1) (get_or-set_other own place (own_place x i) 1 0 (λ q. p (sym q)))
            (of_other true e (λ px pi. absurd (p (ap₂ own_place px pi))))

    mark_one : (b : Bool) → rec_own im r ≡ b
        → is_marked (cond b (set own place 1) own) x i ≡ (any_below r (rec_of_own im x i) || rec_of_own im x i r)
    mark_one true e = set_mark e
    mark_one false e = kept own refl (of_other false e (λ px pi. refl))

  pub mark_goes : Marks im (r + 1) (cond (rec_own im r) (set own place 1) own)
  mark_goes = record {
    whole = whole (rec_own im r);
    marked = λ x i a b h. mark_one x i a b h (rec_own im r) refl ∙ sym (any_step r (rec_of_own im x i));
  }

-- record r, held as e
pub marks_go : (im : List ℕ) (r : ℕ) (e : Record) (b : Bool) (own own' : List ℕ) → CountsRight im → RecordsNamed im → r < im_records im
    → RecordOf im r e → e.level < 8 → b ≡ rec_own im r → Marks im r own → own' ≡ marked_by e b own → Marks im (r + 1) own'
unfolding marked_by
marks_go im r e b own own' w n l o low q m i =
    subst (Marks im (r + 1)) (sym (i ∙ rw (q, o.node, o.level)))
    (mark_goes im r own m (owner_node im n r l) w.few (omega (arith, o.level)))

-- the code's mark
pub mark_own : (e : Record) (b : Bool) (own : List ℕ) → b ≡ true → set own (8 * (e.node - 1) + e.level) 1 ≡ marked_by e b own
unfolding marked_by
mark_own e b own g = rw g

pub mark_other : (e : Record) (b : Bool) (own : List ℕ) → b ≡ false → own ≡ marked_by e b own
unfolding marked_by
mark_other e b own g = rw g

-- every own entry is marked where each has a record
pub marks_say : (im own : List ℕ) → Marks im (im_records im) own → CountsRight im
    → all_below (im_nodes im) (node (levels_marked own (im_digits im))) ≡ all_below (im_nodes im) (node (own_have_records im))
unfolding levels_marked own_have_records own_has_record
marks_say im own m w =
    all_same (im_nodes im) _ _
    (λ k l. all_same (im_digits im) _ _ (λ i g. m.marked (k + 1) i (omega arith) (omega (arith, w.few)) (omega (arith, w.digits))))

pub own_said : (im own : List ℕ) (h : Header) (r : Bool) → Headed im h → Marks im (im_records im) own
    → r ≡ all_below h.nodes (node (levels_marked own h.digits)) → r ≡ all_below (im_nodes im) (node (own_have_records im))
own_said im own h r w m e =
    e ∙ ap₂ (λ (n d : ℕ). all_below n (node (levels_marked own d))) w.nodes w.digits ∙ marks_say im own m w.counted
