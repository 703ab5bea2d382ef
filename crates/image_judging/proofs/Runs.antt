-- The earlier records of an entry are a run that ends at the cursor: what it holds of them, as it starts, enters an entry and passes a
-- record. Assumes nothing.
use Prim.Native.Nat.{ℕ, ◌+◌, ◌≤◌, ◌<◌}
use mathlib.Core.Path.{◌≡◌, refl, sym, ap, ap₂, ◌∙◌}
use mathlib.Core.Logic.{◌≢◌}
use mathlib.Core.Bool.{Bool, true, false, cond, ◌&&◌, ◌||◌, or-true, or-false}
use mathlib.Core.List.{List}
use native.Mathlib.Decide.{ℕ_discrete}
use native.Mathlib.Omega.{arith}
use lib.Dec.{eqb}
use borrow.Author.Count.{below_none, below_more}
use borrow.Author.Tests.{eqb-true, eqb-false, eq-eqb, ne_eqb}
use Rattle.model.specs.Loops.{any_below}
use Rattle.model.specs.Memory.{has_node, add_node}
use Rattle.model.specs.Image.{rec_neighbor, rec_ordered, rec_allowed, rec_owner_first}
use Rattle.model.proofs.Loops.{all_zero_lem, all_step, any_zero, any_step, any_false, count_zero, count_none, count_hit}
use Rattle.model.proofs.Sets.{has_none, has_added, has_add_other}
use Rattle.image_judging.specs.Cursors.{rec_key, of_entry, names_in, EntryRead, Follows, Enters, started, moved, entered, passed}
use Rattle.image_judging.specs.declared.cursor.Cursor.{Cursor}
use Rattle.image_judging.proofs.Faults.{fault_zero, fault_next}

-- nothing is read
nothing : (im : List ℕ) (k : ℕ) → EntryRead im 0 k 0 0
nothing im k = record { count = sym (count_zero _); names = λ u l. has_none u ∙ sym (any_zero _) }

pub start_follows : (im : List ℕ) → Follows im started
start_follows im = record {
  behind = record {
    ordered = all_zero_lem (rec_ordered im);
    below = below_none _;
    read = nothing im 0;
    forbidden = sym (fault_zero (rec_allowed im));
    misplaced = sym (fault_zero (rec_owner_first im));
  };
  last = λ l. absurd (omega arith);
  none = λ e. refl;
}

-- entering an entry
module _ (im : List ℕ) (c : Cursor) (f : Follows im c) (k : ℕ) (rises : c.key ≤ k) (is : k ≡ rec_key im c.next) where
  -- no record before is of a new entry
  fresh : c.key ≢ k → (q : ℕ) → q < c.next → of_entry im k q ≡ false
  unfolding of_entry
  fresh e q l = ne_eqb (rec_key im q) k (λ w. e (omega (arith, f.behind.below q l)))

  unread : c.key ≢ k → EntryRead im c.next k 0 0
  unfolding names_in
  unread e = record {
    count = sym (count_none c.next (of_entry im k) (fresh e));
    names =
        λ u g.
        has_none u
        ∙ sym (any_false c.next (names_in im k u) (λ q l. ap (λ (b : Bool). b && eqb (rec_neighbor im q) u) (fresh e q l)));
  }

  pub enter_enters : Enters im (entered c k)
  unfolding entered
  enter_enters = go (eqb c.key k) refl
    where
      go : (b : Bool) → eqb c.key k ≡ b → Enters im (cond b c (moved c k))
      go true e = record { behind = f.behind; key = eqb-true c.key k e ∙ is }
      go false e = record {
        behind = record {
          ordered = f.behind.ordered;
          below = λ q l. omega (arith, f.behind.below q l);
          read = unread (eqb-false c.key k e);
          forbidden = f.behind.forbidden;
          misplaced = f.behind.misplaced;
        };
        key = is;
      }

pub enter_next : (c : Cursor) (k : ℕ) → (entered c k).next ≡ c.next
unfolding entered
enter_next c k = go (eqb c.key k)
  where
    go : (b : Bool) → (cond b c (moved c k)).next ≡ c.next
    go true = refl
    go false = refl

-- passing a record
module _ (im : List ℕ) (c : Cursor) (w : Enters im c) (u : ℕ) (is : u ≡ rec_neighbor im c.next) (l : 1 ≤ u) where
  here : of_entry im c.key c.next ≡ true
  unfolding of_entry
  here = eq-eqb _ _ (sym w.key)

  -- the record that is passed names u alone
  named_here : (v : ℕ) → names_in im c.key v c.next ≡ eqb u v
  unfolding names_in
  named_here v = ap₂ (λ (b : Bool) (n : ℕ). b && eqb n v) here (sym is)

  named_next : (v : ℕ) → 1 ≤ v → has_node (add_node c.named u) v ≡ any_below (c.next + 1) (names_in im c.key v)
  named_next v g = go (ℕ_discrete v u) ∙ sym (any_step c.next (names_in im c.key v))
    where
      before : has_node c.named v ≡ any_below c.next (names_in im c.key v)
      before = w.behind.read.names v g

      go : Dec (v ≡ u)
          → has_node (add_node c.named u) v ≡ (any_below c.next (names_in im c.key v) || names_in im c.key v c.next)
      go (yes e) =
          ap (has_node (add_node c.named u)) e
          ∙ has_added c.named u
          ∙ sym (or-true (any_below c.next (names_in im c.key v)))
          ∙ ap (λ (b : Bool). any_below c.next (names_in im c.key v) || b) (sym (named_here v ∙ eq-eqb u v (sym e)))
      go (no e) =
          has_add_other c.named u v l g e
          ∙ before
          ∙ sym (or-false (any_below c.next (names_in im c.key v)))
          ∙ ap (λ (b : Bool). any_below c.next (names_in im c.key v) || b) (sym (named_here v ∙ ne_eqb u v (λ q. e (sym q))))

  pub pass_follows : rec_ordered im c.next ≡ true → (a o : Bool) → a ≡ rec_allowed im c.next → o ≡ rec_owner_first im c.next
      → Follows im (passed c u a o)
  pass_follows e a o ea eo = record {
    behind = record {
      ordered = all_step c.next (rec_ordered im) ∙ ap₂ ◌&&◌ w.behind.ordered e;
      below = below_more _ c.next w.behind.below (omega (arith, w.key));
      read = record {
        count = count_hit c.next (of_entry im c.key) true c.count (c.count + 1) w.behind.read.count (sym here) refl refl;
        names = named_next;
      };
      forbidden = fault_next c.next (rec_allowed im) c.forbidden a w.behind.forbidden ea;
      misplaced = fault_next c.next (rec_owner_first im) c.misplaced o w.behind.misplaced eo;
    };
    last = λ g. w.key ∙ ap (rec_key im) (omega arith);
    none = λ e. absurd (omega arith);
  }

-- ---- the cursors that the code makes

pub enter_stays : (c : Cursor) (k : ℕ) → c.key ≡ k → c ≡ entered c k
unfolding entered
enter_stays c k e = rw (eq-eqb c.key k e)

pub enter_moves : (c : Cursor) (k : ℕ) → (c.key ≡ k → ⊥) → moved c k ≡ entered c k
unfolding entered
enter_moves c k e = rw (ne_eqb c.key k e)
