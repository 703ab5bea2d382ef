-- The table of a new node holds the node itself in its own entries and nothing else, and keeps the rules. Assumes nothing.
use Prim.Native.Nat.{ℕ, ◌≤◌, ◌<◌}
use mathlib.Core.Path.{◌≡◌, refl, sym, ap, ap₂, ◌∙◌}
use mathlib.Core.Logic.{◌≢◌, ⊎_elim}
use mathlib.Core.Bool.{true}
use mathlib.Core.List.{List}
use native.Mathlib.Nat.{eq-or-lt_of_le, le_of_suc-le-suc, le_of_lt}
use native.Mathlib.Decide.{ℕ_discrete}
use native.Mathlib.Omega.{arith}
use lib.Dec.{eqb}
use lib.ListN.{length, get_or, replicate, length-set, length-replicate, get_or-replicate}
use lib.Seq.{get_or-set_same, get_or-set_other}
use borrow.Author.Tests.{eq-eqb}
use Rattle.model.specs.Ids.{valid_id, digit_of}
use Rattle.model.specs.Memory.{base, digits, depth, id_of}
use Rattle.model.specs.Tables.{slot_place, slot_at, own_slot, own_table}
use Rattle.model.specs.Sound.{place_used}
use Rattle.model.proofs.Bools.{or_intro_left, not_both}
use Rattle.model.proofs.Loops.{each_leads, each_keeps}
use Rattle.model.proofs.Splice.{set_keeps}
use Rattle.model.proofs.Ids.{InRange, digit_lt, valid_digit, suffix_self, qualified_of}
use Rattle.model.proofs.Sound.{SlotOk, slot_used}
use Rattle.model.proofs.Status.{IsNode}
use Rattle.model.proofs.LearningKeepsRules.{OwnTable}

-- the own entries of the levels below m are written, and no other place
record Own (id x m : ℕ) (T : List ℕ) : Type 0 where
  long : length T ≡ 512
  at : (i : ℕ) → i < m → slot_at T i (digit_of id i) 0 ≡ x
  else : (p : ℕ) → p < 512 → ((i : ℕ) → i < m → p ≢ slot_place i (digit_of id i) 0) → get_or T p 0 ≡ 0

module _ (d id x : ℕ) (few : d ≤ 8) where
  own : Own id x d (own_table d id x)
  unfolding own_table
  own =
      each_leads (Own id x) d (own_slot id x) (replicate 512 0)
      (record { long = length-replicate {A = ℕ} 512 0; at = λ i l. absurd (omega arith); else = λ p h f. get_or-replicate 512 p 0 0 h })
      (λ k T l o. record {
        long = length-set T (slot_place k (digit_of id k) 0) x ∙ o.long;
        at = λ i h. ⊎_elim (λ e. same k T o.long l e) (λ h'. other k T o h' l) (eq-or-lt_of_le (le_of_suc-le-suc h));
        else =
            λ p h f.
            get_or-set_other T (slot_place k (digit_of id k) 0) p x 0 (f k (omega arith))
            ∙ o.else p h (λ i q. f i (omega (arith, q)));
      })
    where
      same : {i : ℕ} (k : ℕ) (T : List ℕ) → length T ≡ 512 → k < d → i ≡ k → slot_at (own_slot id x k T) i (digit_of id i) 0 ≡ x
      same {i} k T e l q =
          ap (λ (m : ℕ). slot_at (own_slot id x k T) m (digit_of id m) 0) q
          ∙ get_or-set_same T (slot_place k (digit_of id k) 0) x 0 (omega (arith, digit_lt id k))

      other : {i : ℕ} (k : ℕ) (T : List ℕ) → Own id x k T → i < k → k < d → slot_at (own_slot id x k T) i (digit_of id i) 0 ≡ x
      other {i} k T o h l =
          let di : digit_of id i < 16 = digit_lt id i in
          let dk : digit_of id k < 16 = digit_lt id k in
          get_or-set_other T (slot_place k (digit_of id k) 0) (slot_place i (digit_of id i) 0) x 0 (omega arith) ∙ o.at i h

pub own_long : (d id x : ℕ) → d ≤ 8 → length (own_table d id x) ≡ 512
own_long d id x few = (own d id x few).long

-- nobody else stands in it
pub own_only : (d id x p : ℕ) → p < 512 → get_or (own_table d id x) p 0 ≢ 0 → get_or (own_table d id x) p 0 ≡ x
unfolding own_table
own_only d id x p h =
    each_keeps (λ (T : List ℕ). get_or T p 0 ≢ 0 → get_or T p 0 ≡ x) d (own_slot id x) (replicate 512 0)
    (λ nz. absurd (nz (get_or-replicate 512 p 0 0 h)))
    (λ k T l f. set_keeps (λ (u : ℕ). u ≢ 0 → u ≡ x) T (slot_place k (digit_of id k) 0) x p f (λ e nz. refl))

module _ (s : List ℕ) (x : ℕ) (range : InRange (base s) (digits s) (depth s)) (is : IsNode s x)
    (valid : valid_id (base s) (digits s) (id_of s x) ≡ true) where
  T : List ℕ
  T = own_table (digits s) (id_of s x) x

  o : Own (id_of s x) x (digits s) T
  unfolding T
  o = own (digits s) (id_of s x) x range.digits_most

  -- a slot that is not the first of an own entry is empty
  empty : (i j k : ℕ) → i < digits s → j < base s → k < depth s → (j ≡ digit_of (id_of s x) i → k ≡ 0 → ⊥) → slot_at T i j k ≡ 0
  empty i j k hi hj hk ne =
      let hd : digits s ≤ 8 = range.digits_most in
      let hb : base s ≤ 16 = range.base_most in
      let hK : depth s ≤ 4 = range.depth_most in
      o.else (slot_place i j k) (omega arith) (λ i' h e.
      let dd : digit_of (id_of s x) i' < 16 = digit_lt (id_of s x) i' in
      let wi : i' ≡ i = omega arith in
      let wj : j ≡ digit_of (id_of s x) i' = omega arith in
      ne (wj ∙ ap (digit_of (id_of s x)) wi) (omega arith))

  own_slot_lem : (i j k : ℕ) → i < digits s → j ≡ digit_of (id_of s x) i → k ≡ 0 → SlotOk s x T i j k
  own_slot_lem i j k hi ej ek =
      let v : slot_at T i j k ≡ x = ap₂ (slot_at T i) ej ek ∙ o.at i hi in
      record {
        within = rw v is.high;
        may = rw v (or_intro_left (eqb x x) _ (eq-eqb x x refl));
        qual = rw v (qualified_of (digits s) (id_of s x) (id_of s x) i j (rw suffix_self (le_of_lt hi)) (sym ej));
        gap = λ q. absurd (q ek);
        fresh = λ e l. absurd (omega arith);
      }

  pub own_table_lem : OwnTable s x (own_table (digits s) (id_of s x) x)
  unfolding T
  own_table_lem = record {
    long = o.long;
    rules = record {
      slots = λ i j k hi hj hk nz. slot i j k hi hj hk nz (ℕ_discrete j (digit_of (id_of s x) i)) (ℕ_discrete k 0);
      owner = λ i h. o.at i h;
      unused = λ p h e. o.else p h (λ i hi q. not_both (place_used s p) (ap (place_used s) q ∙ slot_used s range i (digit_of (id_of s x) i) 0 hi (valid_digit (base s) (digits s) (id_of s x) i valid hi) range.depth_least) e);
    };
  }
    where
      slot : (i j k : ℕ) → i < digits s → j < base s → k < depth s → slot_at T i j k ≢ 0 → Dec (j ≡ digit_of (id_of s x) i) → Dec (k ≡ 0) → SlotOk s x T i j k
      slot i j k hi hj hk nz (yes ej) (yes ek) = own_slot_lem i j k hi ej ek
      slot i j k hi hj hk nz (yes ej) (no ek) = absurd (nz (empty i j k hi hj hk (λ a b. ek b)))
      slot i j k hi hj hk nz (no ej) ek = absurd (nz (empty i j k hi hj hk (λ a b. ej a)))
