-- What the cursor over the records holds. im is the image.
use Rattle.std.specs.Prelude.{ℕ, ◌+◌, ◌-◌, ◌≤◌, ◌<◌, ◌≡◌, Bool, true, cond, not, ◌&&◌, ◌||◌, List, None, eqb, leb, ltb}
use Rattle.model.specs.Loops.{all_below, any_below, count_below}
use Rattle.model.specs.Memory.{has_node, add_node}
use Rattle.model.specs.Image.{rec_node, rec_level, rec_digit, rec_neighbor, rec_ordered, rec_allowed, rec_owner_first}
use Rattle.image_judging.specs.Faults.{noted, fault_below}
use Rattle.image_fields.specs.declared.header.Header.{Header}
use Rattle.image_fields.specs.declared.record.Record.{Record}
use Rattle.image_judging.specs.declared.cursor.Cursor.{Cursor}
use Rattle.model.proofs.RecordRules.{entry_key}
use Rattle.image_fields.specs.Parts.{key_of}

-- the entry of record r
unfoldable pub rec_key : List ℕ → ℕ → ℕ
rec_key im r = entry_key (rec_node im r) (rec_level im r) (rec_digit im r)

-- record q is of the entry k
unfoldable pub of_entry : List ℕ → ℕ → ℕ → Bool
of_entry im k q = eqb (rec_key im q) k

-- and names the neighbour u
unfoldable pub names_in : List ℕ → ℕ → ℕ → ℕ → Bool
names_in im k u q = of_entry im k q && eqb (rec_neighbor im q) u

-- the first r records are read: of those in the entry k there are n, and named is the set of their neighbours
pub record EntryRead (im : List ℕ) (r k n named : ℕ) : Type 0 where
  pub count : n ≡ count_below r (of_entry im k)
  pub names : (u : ℕ) → 1 ≤ u → has_node named u ≡ any_below r (names_in im k u)

-- the cursor behind records in their order: no entry of theirs is above its own, of which it holds what is read, and it keeps their first faults
pub record Behind (im : List ℕ) (c : Cursor) : Type 0 where
  pub ordered : all_below c.next (rec_ordered im) ≡ true
  pub below : (q : ℕ) → q < c.next → rec_key im q ≤ c.key
  pub read : EntryRead im c.next c.key c.count c.named
  pub forbidden : c.forbidden ≡ fault_below c.next (rec_allowed im)
  pub misplaced : c.misplaced ≡ fault_below c.next (rec_owner_first im)

-- in the entry of the last of them
pub record Follows (im : List ℕ) (c : Cursor) : Type 0 where
  pub behind : Behind im c
  pub last : 1 ≤ c.next → c.key ≡ rec_key im (c.next - 1)
  pub none : c.next ≡ 0 → c.key ≡ 0

-- in the entry of the record that it is about to pass
pub record Enters (im : List ℕ) (c : Cursor) : Type 0 where
  pub behind : Behind im c
  pub key : c.key ≡ rec_key im c.next

-- before the first record
abbrev pub started : Cursor
started = record { next = 0; key = 0; count = 0; named = 0; forbidden = None; misplaced = None }

-- the cursor c at the start of the entry k
abbrev pub moved : Cursor → ℕ → Cursor
moved c k = record { next = c.next; key = k; count = 0; named = 0; forbidden = c.forbidden; misplaced = c.misplaced }

-- the cursor in the entry k, of which nothing is read where the cursor was in another
unfoldable pub entered : Cursor → ℕ → Cursor
entered c k = cond (eqb c.key k) c (moved c k)

-- the cursor past a record of its entry that names u: whether u is allowed there, and whether an own entry is still led by its owner
abbrev pub passed : Cursor → ℕ → Bool → Bool → Cursor
passed c u allowed led = record {
  next = c.next + 1;
  key = c.key;
  count = c.count + 1;
  named = add_node c.named u;
  forbidden = noted c.forbidden allowed (c.next + 1);
  misplaced = noted c.misplaced led (c.next + 1);
}

-- the order of the record e behind the cursor c
unfoldable pub keeps_order : Header → Cursor → Record → Bool
keeps_order h c e = ltb e.level h.digits && (ltb e.digit h.base && leb c.key (key_of e))

-- the record e does not put another node than the owner first in an own entry
abbrev pub owner_leads : Cursor → Record → Bool → Bool
owner_leads c e own = not own || (not (eqb c.count 0) || eqb e.neighbor e.node)
