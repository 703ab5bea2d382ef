-- What judging a record and the walk over the records leave, from what their steps say. Assumes nothing.
use Prim.Native.Nat.{ℕ, ◌+◌, ◌≤◌, ◌<◌}
use mathlib.Core.Path.{◌≡◌, sym, ap, subst, ◌∙◌}
use mathlib.Core.Bool.{Bool, true, false}
use mathlib.Core.List.{List}
use native.Mathlib.Omega.{arith}
use borrow.Author.Tests.{ltb-true}
use lib.Dec.{eqb}
use lib.ListN.{replicate}
use Rattle.std.specs.Prelude.{None, Some}
use Rattle.model.specs.Loops.{all_below}
use Rattle.model.specs.Ids.{digit_of}
use Rattle.model.specs.Image.{im_id, im_records, rec_own, rec_ordered, rec_allowed, rec_owner_first}
use Rattle.model.proofs.Bools.{and_left}
use Rattle.image_fields.specs.Parts.{Headed, RecordOf, key_of}
use Rattle.image_judging.specs.Judged.{RecordsNamed}
use Rattle.image_judging.specs.Faults.{fault_below}
use Rattle.image_judging.specs.Cursors.{Follows, Enters, keeps_order, owner_leads, started, entered, passed}
use Rattle.image_judging.specs.Marks.{Marks}
use Rattle.image_judging.specs.Walked.{Walked}
use Rattle.image_fields.specs.declared.header.Header.{Header}
use Rattle.image_fields.specs.declared.record.Record.{Record}
use Rattle.image_judging.specs.declared.cursor.Cursor.{Cursor}
use Rattle.image_judging.proofs.Faults.{none_fault, fault_here, none_some}
use Rattle.image_judging.proofs.Rules.{key_held, order_held, order_rises, neighbor_held, first_held}
use Rattle.image_judging.proofs.Marked.{marks_none}
use Rattle.image_judging.proofs.Runs.{start_follows, enter_enters, enter_next, pass_follows}

-- ---- a record in its order is judged

module _ (im : List ℕ) (h : Header) (c : Cursor) (e : Record) (w : Headed im h) (f : Follows im c) (o : RecordOf im c.next e)
    (q : keeps_order h c e ≡ true) where
  pub ordered : rec_ordered im c.next ≡ true
  ordered = sym (order_held im w.counted c f h e w o) ∙ q

  module _ (k : ℕ) (p : k ≡ key_of e) (d : Cursor) (v : d ≡ entered c k) where
    pub entry_next : d.next ≡ c.next
    entry_next = ap (λ (d : Cursor). d.next) v ∙ enter_next c k

    pub entry_enters : Enters im d
    entry_enters =
        let rises : c.key ≤ key_of e = order_rises h c e q in
        subst (Enters im) (sym v) (enter_enters im c f k (omega arith) (p ∙ key_held im c.next e o))

    pub entry_record : RecordOf im d.next e
    entry_record = subst (λ (r : ℕ). RecordOf im r e) (sym entry_next) o

    pub entry_within : c.next < im_records im → d.next < im_records im
    entry_within l = omega (arith, entry_next)

    pub past_is : RecordsNamed im → c.next < im_records im → (own a t : Bool) → own ≡ rec_own im c.next → a ≡ rec_allowed im d.next
        → t ≡ owner_leads d e own → (s : Cursor) → s ≡ passed d e.neighbor a t → (s.next ≡ c.next + 1) × Follows im s
    past_is n l own a t z ea et s i = (
      ap (λ (s : Cursor). s.next) i ∙ ap (λ (r : ℕ). r + 1) entry_next,
      subst (Follows im) (sym i)
          (pass_follows im d entry_enters e.neighbor entry_record.neighbor (neighbor_held im c.next e n l o).first
          (ap (rec_ordered im) entry_next ∙ ordered) a t ea
          (et ∙ first_held im w.counted d entry_enters e own entry_record (z ∙ ap (rec_own im) (sym entry_next)))),
    )

-- ---- the walk

-- what the walk holds before each record
abbrev pub Walking : List ℕ → Cursor → List ℕ → Type 0
Walking im c own = (c.next ≤ im_records im) × (Follows im c × Marks im c.next own)

pub start_held : (im : List ℕ) (c : Cursor) (own : List ℕ) → c ≡ started → own ≡ replicate 512 0 → Walking im c own
start_held im c own e m =
    subst (λ (d : Cursor). Walking im d own) (sym e) (omega arith, (start_follows im, subst (Marks im 0) (sym m) (marks_none im)))

-- a record as the code reads it at the cursor
pub at_cursor : (im : List ℕ) (r n : ℕ) (e : Record) → n ≡ r → RecordOf im r e → RecordOf im n e
at_cursor im r n e i o = subst (λ (k : ℕ). RecordOf im k e) (sym i) o

-- past one record
pub step_held : (im : List ℕ) (r : ℕ) (past : Cursor) (own : List ℕ) → r < im_records im → (past.next ≡ r + 1) × Follows im past → Marks im (r + 1) own
    → Walking im past own
step_held im r past own l (e, f) m = (omega arith, (f, subst (λ (k : ℕ). Marks im k own) (sym e) m))

-- the record's own entry, as the code finds it
pub own_held : (im : List ℕ) (r : ℕ) (e : Record) (b : Bool) → RecordOf im r e → b ≡ eqb e.digit (digit_of (im_id im e.node) e.level) → b ≡ rec_own im r
own_held im r e b o q = q ∙ rw (o.node, o.level, o.digit)

-- the level of a record in its order
pub level_low : (im : List ℕ) (h : Header) (c : Cursor) (e : Record) → Headed im h → keeps_order h c e ≡ true → e.level < 8
unfolding keeps_order
level_low im h c e w q = omega (arith, ltb-true e.level h.digits (and_left _ _ q), w.digits, w.counted.digits)

-- it ends at a record out of order, or behind the last
module _ (im : List ℕ) (h : Header) (w : Headed im h) (c : Cursor) (f : Follows im c) (own : List ℕ) where
  pub ends_early : (e : Record) (r : ℕ) → c.next ≡ r → RecordOf im r e → r < h.records → (b : Bool) → b ≡ keeps_order h c e → b ≡ false
      → Walked im (record { disordered = Some (r + 1); forbidden = c.forbidden; misplaced = c.misplaced }) own
  ends_early e r i o l b q g =
      record {
        disordered =
            ap (λ (k : ℕ). Some (k + 1)) (sym i)
            ∙ fault_here (im_records im) (rec_ordered im) c.next (omega (arith, w.records)) f.behind.ordered
            (sym (order_held im w.counted c f h e w (at_cursor im r c.next e i o)) ∙ sym q ∙ g);
        through = λ z. absurd (none_some _ (sym z));
      }

  pub ends_late : Marks im c.next own → c.next ≤ im_records im → h.records ≤ c.next
      → Walked im (record { disordered = None; forbidden = c.forbidden; misplaced = c.misplaced }) own
  ends_late m l g =
      let n : c.next ≡ im_records im = omega (arith, w.records) in
      record {
        disordered = none_fault (im_records im) (rec_ordered im) (subst (λ (k : ℕ). all_below k (rec_ordered im) ≡ true) n f.behind.ordered);
        through = λ z. record {
          forbidden = f.behind.forbidden ∙ ap (λ (k : ℕ). fault_below k (rec_allowed im)) n;
          misplaced = f.behind.misplaced ∙ ap (λ (k : ℕ). fault_below k (rec_owner_first im)) n;
          marked = subst (λ (k : ℕ). Marks im k own) n m;
        };
      }
