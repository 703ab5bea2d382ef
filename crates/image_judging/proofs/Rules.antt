-- The rules of a record by what the cursor holds, in place of all earlier records. Assumes nothing.
use Prim.Native.Nat.{ℕ, ◌-◌, ◌≤◌, ◌<◌}
use mathlib.Core.Path.{◌≡◌, sym, ap, ap₂, subst, ◌∙◌}
use mathlib.Core.Logic.{◌⊎◌, inl, inr}
use mathlib.Core.Bool.{Bool, true, false, not, ◌&&◌, ◌||◌, and_assoc}
use mathlib.Core.List.{List}
use native.Mathlib.Decide.{ℕ_discrete}
use native.Mathlib.Omega.{arith}
use lib.Dec.{eqb, leb, ltb}
use borrow.Author.Tests.{eq-eqb, ne_eqb, le-leb, leb-true}
use Rattle.model.specs.Loops.{any_below, count_below}
use Rattle.model.specs.Memory.{has_node}
use Rattle.model.specs.Tables.{qualified}
use Rattle.model.specs.Image.{im_nodes, im_id, im_records, im_is_node, rec_node, rec_level, rec_digit, rec_neighbor}
use Rattle.model.specs.Image.{rec_nodes_good, same_entry, rises_from, rec_ordered, same_neighbor, rec_allowed, rec_own, rec_owner_first}
use Rattle.model.proofs.Bools.{and_left, and_right, true_or_false}
use Rattle.model.proofs.Loops.{all_at, any_at, any_same, any_found, count_same, count_some, count_none, count_le}
use Rattle.state.specs.Loaded.{Numbered}
use Rattle.image_fields.specs.Parts.{CountsRight, Headed, ImageNode, RecordOf, key_of}
use Rattle.image_judging.specs.Judged.{RecordsNamed}
use Rattle.image_judging.specs.Cursors.{rec_key, of_entry, names_in, Follows, Enters, keeps_order, owner_leads}
use Rattle.image_fields.specs.declared.header.Header.{Header}
use Rattle.image_fields.specs.declared.record.Record.{Record}
use Rattle.image_judging.specs.declared.cursor.Cursor.{Cursor}
use Rattle.image_judging.proofs.Keys.{same_key, rises_key}

-- ---- the nodes of a record

is_node : (im : List ℕ) (x : ℕ) → im_is_node im x ≡ true → ImageNode im x
is_node im x e = record { first = leb-true 1 x (and_left _ _ e); last = leb-true x (im_nodes im) (and_right (leb 1 x) _ e) }

module _ (im : List ℕ) (n : RecordsNamed im) (r : ℕ) (l : r < im_records im) where
  good_nodes : rec_nodes_good im r ≡ true
  good_nodes = all_at (im_records im) (rec_nodes_good im) n.nodes r l

  pub owner_node : ImageNode im (rec_node im r)
  owner_node = is_node im (rec_node im r) (and_left _ _ good_nodes)

  pub neighbor_node : ImageNode im (rec_neighbor im r)
  neighbor_node = is_node im (rec_neighbor im r) (and_right (im_is_node im (rec_node im r)) _ good_nodes)

-- as the code holds them
pub owner_held : (im : List ℕ) (r : ℕ) (e : Record) → RecordsNamed im → r < im_records im → RecordOf im r e → ImageNode im e.node
owner_held im r e n l o = subst (ImageNode im) (sym o.node) (owner_node im n r l)

pub neighbor_held : (im : List ℕ) (r : ℕ) (e : Record) → RecordsNamed im → r < im_records im → RecordOf im r e → ImageNode im e.neighbor
neighbor_held im r e n l o = subst (ImageNode im) (sym o.neighbor) (neighbor_node im n r l)

pub key_held : (im : List ℕ) (r : ℕ) (e : Record) → RecordOf im r e → key_of e ≡ rec_key im r
unfolding rec_key
key_held im r e o = omega (arith, o.node, o.level, o.digit)

-- ---- the order

module _ (im : List ℕ) (bytes : CountsRight im) (c : Cursor) (f : Follows im c) where
  rises : (eqb c.next 0 || rises_from im (c.next - 1) c.next) ≡ leb c.key (rec_key im c.next)
  rises = go (ℕ_discrete c.next 0)
    where
      go : Dec (c.next ≡ 0) → (eqb c.next 0 || rises_from im (c.next - 1) c.next) ≡ leb c.key (rec_key im c.next)
      go (yes e) =
          ap (λ (b : Bool). b || rises_from im (c.next - 1) c.next) (eq-eqb c.next 0 e)
          ∙ sym (le-leb c.key (rec_key im c.next) (omega (arith, f.none e)))
      go (no e) =
          ap (λ (b : Bool). b || rises_from im (c.next - 1) c.next) (ne_eqb c.next 0 e)
          ∙ rises_key im bytes.bytes (c.next - 1) c.next
          ∙ ap (λ (k : ℕ). leb k (rec_key im c.next)) (sym (f.last (omega arith)))

  pub order_held : (h : Header) (e : Record) → Headed im h → RecordOf im c.next e → keeps_order h c e ≡ rec_ordered im c.next
  unfolding rec_ordered keeps_order
  order_held h e w o =
      ap₂ (λ (a b : Bool). a && b) (ap₂ ltb o.level w.digits)
      (ap₂ (λ (a b : Bool). a && b) (ap₂ ltb o.digit w.base)
      (ap (leb c.key) (key_held im c.next e o) ∙ sym rises))

-- the record does not stand below the cursor's entry
pub order_rises : (h : Header) (c : Cursor) (e : Record) → keeps_order h c e ≡ true → c.key ≤ key_of e
unfolding keeps_order
order_rises h c e q =
    leb-true c.key (key_of e) (and_right (ltb e.digit h.base) _ (and_right (ltb e.level h.digits) _ q))

-- ---- the earlier records of the entry

module _ (im : List ℕ) (bytes : CountsRight im) (c : Cursor) (w : Enters im c) where
  in_entry : (q : ℕ) → same_entry im c.next q ≡ of_entry im c.key q
  in_entry q = same_key im bytes.bytes c.next q ∙ ap (λ (k : ℕ). of_entry im k q) (sym w.key)

  pub count_held : count_below c.next (same_entry im c.next) ≡ c.count
  count_held = count_same c.next _ _ (λ q l. in_entry q) ∙ sym w.behind.read.count

  pub named_held : 1 ≤ rec_neighbor im c.next → any_below c.next (same_neighbor im c.next) ≡ has_node c.named (rec_neighbor im c.next)
  unfolding names_in
  named_held l =
      any_same c.next _ (names_in im c.key (rec_neighbor im c.next))
      (λ q g. ap (λ (b : Bool). b && eqb (rec_neighbor im q) (rec_neighbor im c.next)) (in_entry q))
      ∙ sym (w.behind.read.names (rec_neighbor im c.next) l)

  pub some_held : any_below c.next (same_entry im c.next) ≡ not (eqb c.count 0)
  some_held = go (true_or_false (any_below c.next (same_entry im c.next)))
    where
      go : (any_below c.next (same_entry im c.next) ≡ true) ⊎ (any_below c.next (same_entry im c.next) ≡ false)
          → any_below c.next (same_entry im c.next) ≡ not (eqb c.count 0)
      go (inl e) =
          let k = any_found c.next (same_entry im c.next) e in
          let l : 1 ≤ count_below c.next (same_entry im c.next) = count_some c.next (same_entry im c.next) k.0 k.1 k.2 in
          e ∙ sym (ap not (ne_eqb c.count 0 (λ q. omega (arith, count_held))))
      go (inr e) =
          e
          ∙ sym (ap not (eq-eqb c.count 0 (sym count_held ∙ count_none c.next (same_entry im c.next) (any_at c.next (same_entry im c.next) e))))

  -- the neighbour may stand in the entry, by what the code holds
  pub allowed_held : (h : Header) (e : Record) → Headed im h → RecordsNamed im → c.next < im_records im → RecordOf im c.next e
      → (qualified (im_id im e.node) (im_id im e.neighbor) e.level e.digit
      && (not (has_node c.named e.neighbor) && ltb c.count h.depth))
      ≡ rec_allowed im c.next
  unfolding rec_allowed
  allowed_held h e v n l o =
      ap₂ (λ (a b : Bool). a && b) quals
      (ap₂ (λ (a b : Bool). not a && b)
      (ap (has_node c.named) o.neighbor ∙ sym (named_held (neighbor_node im n c.next l).first))
      (ap₂ ltb (sym count_held) v.depth))
    where
      quals : qualified (im_id im e.node) (im_id im e.neighbor) e.level e.digit
          ≡ qualified (im_id im (rec_node im c.next)) (im_id im (rec_neighbor im c.next)) (rec_level im c.next) (rec_digit im c.next)
      quals = rw (o.node, o.neighbor, o.level, o.digit)

  -- an own entry begins with its owner, by what the code holds
  pub first_held : (e : Record) (own : Bool) → RecordOf im c.next e → own ≡ rec_own im c.next → owner_leads c e own ≡ rec_owner_first im c.next
  unfolding rec_owner_first
  first_held e own o q = rw (q, o.node, o.neighbor, some_held)

-- ---- the ways of the code through these rules

module _ (h : Header) (c : Cursor) (e : Record) (f : Bool) (ef : f ≡ (ltb e.level h.digits && ltb e.digit h.base)) where
  in_order : (b : Bool) → f ≡ b → (s : Bool) → (b && leb c.key (key_of e)) ≡ s → s ≡ keeps_order h c e
  unfolding keeps_order
  in_order b g s q =
      sym q
      ∙ ap (λ (b : Bool). b && leb c.key (key_of e)) (sym g ∙ ef)
      ∙ and_assoc (ltb e.level h.digits) (ltb e.digit h.base) (leb c.key (key_of e))

  pub order_leaves : f ≡ false → f ≡ keeps_order h c e
  order_leaves g = in_order false g f (sym g)

  pub order_goes : f ≡ true → (k : ℕ) → k ≡ key_of e → leb c.key k ≡ keeps_order h c e
  order_goes g k ek = in_order true g (leb c.key k) (ap (leb c.key) (sym ek))

module _ (im : List ℕ) (h : Header) (c : Cursor) (e : Record) (w : Headed im h) (n : RecordsNamed im) (v : Enters im c)
    (l : c.next < im_records im) (o : RecordOf im c.next e) (x u : ℕ) (ex : x ≡ im_id im e.node) (eu : u ≡ im_id im e.neighbor)
    (a : Bool) (ea : a ≡ qualified x u e.level e.digit) where
  allowed : (b : Bool) → a ≡ b → (s : Bool) → (b && (not (has_node c.named e.neighbor) && ltb c.count h.depth)) ≡ s → s ≡ rec_allowed im c.next
  allowed b g s q =
      sym q
      ∙ ap (λ (b : Bool). b && (not (has_node c.named e.neighbor) && ltb c.count h.depth))
      (sym g ∙ ea ∙ ap₂ (λ (y z : ℕ). qualified y z e.level e.digit) ex eu)
      ∙ allowed_held im w.counted c v h e w n l o

  pub not_qualified : a ≡ false → a ≡ rec_allowed im c.next
  not_qualified g = allowed false g a (sym g)

  pub room_left : a ≡ true → (b : Bool) → b ≡ (not (has_node c.named e.neighbor) && ltb c.count h.depth) → b ≡ rec_allowed im c.next
  room_left g b eb = allowed true g b (sym eb)

-- ---- numbers within their bounds

numbered : (im : List ℕ) (x : ℕ) → CountsRight im → ImageNode im x → Numbered x
numbered im x w n = record { first = n.first; last = omega (arith, n.last, w.few) }

pub owner_numbered : (im : List ℕ) (r : ℕ) (e : Record) → CountsRight im → RecordsNamed im → r < im_records im → RecordOf im r e → Numbered e.node
owner_numbered im r e w n l o = numbered im e.node w (owner_held im r e n l o)

pub neighbor_numbered : (im : List ℕ) (r : ℕ) (e : Record) → CountsRight im → RecordsNamed im → r < im_records im → RecordOf im r e → Numbered e.neighbor
neighbor_numbered im r e w n l o = numbered im e.neighbor w (neighbor_held im r e n l o)

pub count_within : (im : List ℕ) (c : Cursor) → CountsRight im → Enters im c → c.next < im_records im → c.count < 65535
count_within im c w v l = omega (arith, v.behind.read.count, count_le c.next (of_entry im c.key), w.whole, w.short)

pub next_within : (im : List ℕ) (c : Cursor) → CountsRight im → c.next < im_records im → c.next < 65535
next_within im c w l = omega (arith, w.whole, w.short)
