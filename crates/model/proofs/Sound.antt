-- Soundness as a record of facts: each clause of the test, and the way there and back. Theorems use the record, contracts of code the
-- test. Assumes nothing.
use Prim.Native.Nat.{ℕ, ◌+◌, ◌-◌, ◌*◌, ◌/◌, ◌%◌, ◌^◌, ◌≤◌, ◌<◌}
use mathlib.Core.Path.{◌≡◌, sym, ap, subst, ◌∙◌}
use mathlib.Core.Logic.{◌≢◌, ◌⊎◌, inl, inr}
use mathlib.Core.Bool.{Bool, true, false, not, ◌&&◌}
use mathlib.Core.List.{List}
use native.Mathlib.Omega.{arith}
use lib.Dec.{leb, ltb, eqb}
use lib.ListN.{length, get_or, take, drop}
use borrow.Author.Tests.{eqb-true, eqb-false, eq-eqb, ne_eqb, leb-true, le-leb, ltb-true, lt-ltb, not-true}
use Rattle.model.specs.Loops.{all_below, node}
use Rattle.model.specs.Ids.{settings_in_range, valid_id, digit_of}
use Rattle.model.specs.Memory.{state_length, tables_length, base, digits, depth, node_count, node_of, id_of, table_start, table_of}
use Rattle.model.specs.Tables.{slot_place, slot_at, first_of}
use Rattle.model.specs.Nodes.{qualifies}
use Rattle.model.specs.Sound.{has_valid_id, id_differs, has_new_id, may_stand, slot_differs, no_gap_before, slot_sound, entry_sound, level_sound, owner_first, status_sound}
use Rattle.model.specs.Sound.{counts_sound, all_zero, place_used, place_sound, state_rest_zero, tables_rest_zero, unused_zero, table_sound, has_sound_table, sound}
use Rattle.model.proofs.Bools.{and_intro, or_right, or_intro_left, or_intro_right, true_or_false, parts}
use Rattle.model.proofs.Loops.{all_at, all_of}
use Rattle.model.proofs.Ids.{InRange, settings_range, settings_of, valid_fits}
use Rattle.model.proofs.Nodes.{nodes_at, nodes_of}
use Rattle.model.proofs.Zero.{part_zero_at, part_zero_of}
use Rattle.model.proofs.Status.{IsNode, StatusOk, status_ok, status_of_lem}
use Rattle.model.proofs.NodeCounts.{CountsOk, counts_ok, counts_of}

-- ---- tables

-- a filled slot
pub record SlotOk (s : List ℕ) (x : ℕ) (T : List ℕ) (i j k : ℕ) : Type 0 where
  pub within : slot_at T i j k ≤ node_count s
  pub may : may_stand s x (slot_at T i j k) ≡ true
  pub qual : qualifies s x i j (slot_at T i j k) ≡ true
  pub gap : k ≢ 0 → slot_at T i j (k - 1) ≢ 0
  pub fresh : (e : ℕ) → e < k → slot_at T i j e ≢ slot_at T i j k

-- x's table
pub record TableOk (s : List ℕ) (x : ℕ) (T : List ℕ) : Type 0 where
  pub slots : (i j k : ℕ) → i < digits s → j < base s → k < depth s → slot_at T i j k ≢ 0 → SlotOk s x T i j k
  pub owner : (i : ℕ) → i < digits s → first_of T i (digit_of (id_of s x) i) ≡ x
  pub unused : (p : ℕ) → p < 512 → place_used s p ≡ false → get_or T p 0 ≡ 0

-- the tests of a filled slot that holds u
abbrev slot_tests : List ℕ → ℕ → List ℕ → ℕ → ℕ → ℕ → ℕ → Bool
slot_tests s x T i j k u =
    leb u (node_count s)
    && (may_stand s x u && (qualifies s x i j u && (no_gap_before T i j k && all_below k (slot_differs T i j u))))

module _ (s : List ℕ) (x : ℕ) (T : List ℕ) where
  filled_ok : (i j k : ℕ) → slot_tests s x T i j k (slot_at T i j k) ≡ true → SlotOk s x T i j k
  filled_ok i j k h = record {
    within = leb-true (slot_at T i j k) (node_count s) (search parts);
    may = search parts;
    qual = search parts;
    gap = λ q. eqb-false (slot_at T i j (k - 1)) 0 (not-true _ (or_right (eqb k 0) _ (search parts) (ne_eqb k 0 q)));
    fresh =
        λ m l.
        eqb-false (slot_at T i j m) (slot_at T i j k)
        (not-true _ (all_at k (slot_differs T i j (slot_at T i j k)) (search parts) m l));
  }

  slot_ok : (i j k : ℕ) → slot_sound s x T i j k ≡ true → slot_at T i j k ≢ 0 → SlotOk s x T i j k
  unfolding slot_sound
  slot_ok i j k e nz = filled_ok i j k (or_right (eqb (slot_at T i j k) 0) _ e (ne_eqb (slot_at T i j k) 0 nz))

  filled_of : (i j k : ℕ) → SlotOk s x T i j k → slot_tests s x T i j k (slot_at T i j k) ≡ true
  filled_of i j k r =
      let u : ℕ = slot_at T i j k in
      let w : leb u (node_count s) ≡ true = le-leb u (node_count s) r.within in
      let m : may_stand s x u ≡ true = r.may in
      let q : qualifies s x i j u ≡ true = r.qual in
      let g : no_gap_before T i j k ≡ true = no_gap (true_or_false (eqb k 0)) in
      let f : all_below k (slot_differs T i j u) ≡ true =
      all_of k (slot_differs T i j u) (λ e l. ap not (ne_eqb (slot_at T i j e) u (r.fresh e l))) in
      search and_intro
    where
      no_gap : (eqb k 0 ≡ true) ⊎ (eqb k 0 ≡ false) → no_gap_before T i j k ≡ true
      no_gap (inl p) = or_intro_left (eqb k 0) _ p
      no_gap (inr p) = or_intro_right (eqb k 0) _ (ap not (ne_eqb (slot_at T i j (k - 1)) 0 (r.gap (eqb-false k 0 p))))

  slot_of : (i j k : ℕ) → (slot_at T i j k ≢ 0 → SlotOk s x T i j k) → slot_sound s x T i j k ≡ true
  unfolding slot_sound
  slot_of i j k h = go (true_or_false (eqb (slot_at T i j k) 0))
    where
      go : (eqb (slot_at T i j k) 0 ≡ true) ⊎ (eqb (slot_at T i j k) 0 ≡ false) → slot_sound s x T i j k ≡ true
      go (inl p) = or_intro_left (eqb (slot_at T i j k) 0) _ p
      go (inr p) =
          or_intro_right (eqb (slot_at T i j k) 0) _ (filled_of i j k (h (eqb-false (slot_at T i j k) 0 p)))

  pub table_ok : table_sound s x T ≡ true → TableOk s x T
  unfolding table_sound level_sound entry_sound
  table_ok e = record {
    slots =
        λ i j k hi hj hk.
        slot_ok i j k
        (all_at (depth s) (slot_sound s x T i j)
        (all_at (base s) (entry_sound s x T i) (all_at (digits s) (level_sound s x T) (search parts) i hi) j hj) k hk);
    owner = λ i hi. eqb-true _ _ (all_at (digits s) (owner_first s x T) (search parts) i hi);
    unused =
        λ p h q. eqb-true _ _ (or_right (place_used s p) _ (all_at 512 (place_sound s T) (search parts) p h) q);
  }

  pub table_of_lem : TableOk s x T → table_sound s x T ≡ true
  unfolding table_sound level_sound entry_sound
  table_of_lem r =
      and_intro _ _
      (all_of (digits s) (level_sound s x T)
      (λ i hi.
      all_of (base s) (entry_sound s x T i)
      (λ j hj. all_of (depth s) (slot_sound s x T i j) (λ k hk. slot_of i j k (r.slots i j k hi hj hk)))))
      (and_intro _ _ (all_of (digits s) (owner_first s x T) (λ i hi. eq-eqb _ _ (r.owner i hi)))
      (all_of 512 (place_sound s T) (λ p h. place p h (true_or_false (place_used s p)))))
    where
      place : (p : ℕ) → p < 512 → (place_used s p ≡ true) ⊎ (place_used s p ≡ false) → place_sound s T p ≡ true
      place p h (inl q) = or_intro_left (place_used s p) _ q
      place p h (inr q) = or_intro_right (place_used s p) _ (eq-eqb (get_or T p 0) 0 (r.unused p h q))

-- the used places of a table are its slots
-- a place that may be used is of a level, a digit and a slot below the settings
pub used_place : (s : List ℕ) (p : ℕ) → place_used s p ≡ true → (p / 64 < digits s) × (p % 64 / 4 < base s) × (p % 4 < depth s)
used_place s p e =
    (ltb-true _ (digits s) (search parts), ltb-true _ (base s) (search parts), ltb-true _ (depth s) (search parts))

module _ (s : List ℕ) (range : InRange (base s) (digits s) (depth s)) where
  pub slot_used : (i j k : ℕ) → i < digits s → j < base s → k < depth s → place_used s (slot_place i j k) ≡ true
  slot_used i j k hi hj hk =
      let hb : base s ≤ 16 = range.base_most in
      let hK : depth s ≤ 4 = range.depth_most in
      let p : ℕ = slot_place i j k in
      let level : ltb (p / 64) (digits s) ≡ true = lt-ltb (p / 64) (digits s) (omega arith) in
      let digit : ltb (p % 64 / 4) (base s) ≡ true = lt-ltb (p % 64 / 4) (base s) (omega arith) in
      let slot : ltb (p % 4) (depth s) ≡ true = lt-ltb (p % 4) (depth s) (omega arith) in
      search and_intro

  -- a filled place is a slot that keeps its rules
  pub filled_slot : (x : ℕ) (T : List ℕ) → TableOk s x T → (p : ℕ) → p < 512 → get_or T p 0 ≢ 0
      → SlotOk s x T (p / 64) (p % 64 / 4) (p % 4) × (slot_place (p / 64) (p % 64 / 4) (p % 4) ≡ p)
  filled_slot x T ok p h nz = go (true_or_false (place_used s p))
    where
      w : slot_place (p / 64) (p % 64 / 4) (p % 4) ≡ p
      w = omega arith

      go : (place_used s p ≡ true) ⊎ (place_used s p ≡ false)
          → SlotOk s x T (p / 64) (p % 64 / 4) (p % 4) × (slot_place (p / 64) (p % 64 / 4) (p % 4) ≡ p)
      go (inr e) = absurd (nz (ok.unused p h e))
      go (inl e) =
          let u = used_place s p e in
          (ok.slots (p / 64) (p % 64 / 4) (p % 4) u.0 u.1 u.2 (λ q. nz (ap (λ (p : ℕ). get_or T p 0) (sym w) ∙ q)), w)

  -- what stands in a place is a node that may
  pub standing : (x : ℕ) (T : List ℕ) → TableOk s x T → (p : ℕ) → p < 512 → get_or T p 0 ≢ 0
      → (get_or T p 0 ≤ node_count s) × (may_stand s x (get_or T p 0) ≡ true)
  standing x T ok p h nz =
      let f = filled_slot x T ok p h nz in
      subst (λ (q : ℕ). (get_or T q 0 ≤ node_count s) × (may_stand s x (get_or T q 0) ≡ true)) f.1 (f.0.within, f.0.may)

-- ---- the whole state

-- memory of at least the fixed lengths
pub record Long (s t : List ℕ) : Type 0 where
  pub state : state_length ≤ length s
  pub tables : tables_length ≤ length t

pub record Sound (s t : List ℕ) : Type 0 where
  pub long : Long s t
  pub settings : InRange (base s) (digits s) (depth s)
  pub some : 1 ≤ node_count s
  pub few : node_count s ≤ 64
  pub ids : (x : ℕ) → IsNode s x → valid_id (base s) (digits s) (id_of s x) ≡ true
  pub new : (x y : ℕ) → IsNode s x → 1 ≤ y → y < x → id_of s y ≢ id_of s x
  pub tables : (x : ℕ) → IsNode s x → TableOk s x (table_of t x)
  pub statuses : (x : ℕ) → IsNode s x → StatusOk s x
  pub counts : (x : ℕ) → IsNode s x → CountsOk s x (node_of s x)
  pub head : (p : ℕ) → 4 ≤ p → p < 8 → get_or s p 0 ≡ 0
  pub rest : (p : ℕ) → 8 * node_count s + 8 ≤ p → p < state_length → get_or s p 0 ≡ 0
  pub tables_rest : (p : ℕ) → 512 * node_count s ≤ p → p < tables_length → get_or t p 0 ≡ 0

-- what the code reads as a number of 32 bits
pub id_fits : (s t : List ℕ) → Sound s t → (x : ℕ) → IsNode s x → id_of s x < 2 ^ 32
id_fits s t S x n = valid_fits (base s) (digits s) (id_of s x) S.settings.digits_most (S.ids x n)

module _ (s t : List ℕ) where
  id_new : (x y : ℕ) → has_new_id s x ≡ true → 1 ≤ y → y < x → id_of s y ≢ id_of s x
  unfolding has_new_id
  id_new x y e l h =
      let w : y - 1 + 1 ≡ y = omega arith in
      subst (λ (z : ℕ). id_of s z ≢ id_of s x) w
      (eqb-false _ _ (not-true _ (all_at (x - 1) (id_differs s x) e (y - 1) (omega arith))))

  id_new_of : (x : ℕ) → ((y : ℕ) → 1 ≤ y → y < x → id_of s y ≢ id_of s x) → has_new_id s x ≡ true
  unfolding has_new_id
  id_new_of x h =
      all_of (x - 1) (id_differs s x)
      (λ k l. ap not (ne_eqb (id_of s (k + 1)) (id_of s x) (h (k + 1) (omega arith) (omega arith))))

  pub sound_ok : Long s t → sound s t ≡ true → Sound s t
  unfolding sound unused_zero state_rest_zero tables_rest_zero
  sound_ok l e =
      let n : ℕ = node_count s in
      let few : node_count s ≤ 64 = leb-true (node_count s) 64 (search parts) in
      record {
        long = l;
        settings = settings_range (base s) (digits s) (depth s) (search parts);
        some = leb-true 1 (node_count s) (search parts);
        few = few;
        ids = λ x i. nodes_at n (has_valid_id s) (search parts) x i.low i.high;
        new = λ x y i. id_new x y (nodes_at n (has_new_id s) (search parts) x i.low i.high);
        tables = λ x i. table_ok s x (table_of t x) (nodes_at n (has_sound_table s t) (search parts) x i.low i.high);
        statuses = λ x i. status_ok s x (nodes_at n (status_sound s) (search parts) x i.low i.high);
        counts = λ x i. counts_ok s x (nodes_at n (counts_sound s) (search parts depth 12) x i.low i.high);
        head = part_zero_at s 4 8 (omega (arith, l.state)) (search parts depth 12);
        rest = part_zero_at s (8 * node_count s + 8) state_length l.state (search parts depth 12);
        tables_rest = part_zero_at t (512 * node_count s) tables_length l.tables (search parts depth 12);
      }

  pub sound_of : Sound s t → sound s t ≡ true
  unfolding sound unused_zero state_rest_zero tables_rest_zero
  sound_of r =
      let n : ℕ = node_count s in
      let few : node_count s ≤ 64 = r.few in
      let settings : settings_in_range (base s) (digits s) (depth s) ≡ true = settings_of _ _ _ r.settings in
      let low : leb 1 (node_count s) ≡ true = le-leb 1 (node_count s) r.some in
      let high : leb (node_count s) 64 ≡ true = le-leb (node_count s) 64 r.few in
      let ids : all_below n (node (has_valid_id s)) ≡ true = nodes_of n (has_valid_id s) (λ x a b. r.ids x (record { low = a; high = b })) in
      let new : all_below n (node (has_new_id s)) ≡ true =
      nodes_of n (has_new_id s) (λ x a b. id_new_of x (λ y. r.new x y (record { low = a; high = b }))) in
      let tables : all_below n (node (has_sound_table s t)) ≡ true =
      nodes_of n (has_sound_table s t) (λ x a b. table_of_lem s x (table_of t x) (r.tables x (record { low = a; high = b }))) in
      let statuses : all_below n (node (status_sound s)) ≡ true =
      nodes_of n (status_sound s) (λ x a b. status_of_lem s x (r.statuses x (record { low = a; high = b }))) in
      let counts : all_below n (node (counts_sound s)) ≡ true =
      nodes_of n (counts_sound s) (λ x a b. counts_of s x (r.counts x (record { low = a; high = b }))) in
      let head : all_zero (take 4 (drop 4 s)) ≡ true = part_zero_of s 4 8 (omega (arith, r.long.state)) (omega arith) r.head in
      let rest : all_zero (take (state_length - (8 * node_count s + 8)) (drop (8 * node_count s + 8) s)) ≡ true =
      part_zero_of s (8 * node_count s + 8) state_length r.long.state (omega arith) r.rest in
      let tail : all_zero (take (tables_length - 512 * node_count s) (drop (512 * node_count s) t)) ≡ true =
      part_zero_of t (512 * node_count s) tables_length r.long.tables (omega arith) r.tables_rest in
      search and_intro depth 12

-- the record and the table of a node lie in the memory
module _ (s t : List ℕ) (S : Sound s t) (x : ℕ) (n : IsNode s x) where
  pub node_fits : 8 * x + 8 ≤ length s
  node_fits = omega (arith, S.long.state, S.few, n.high)

  pub table_fits : table_start x + 512 ≤ length t
  table_fits =
      let lo : 1 ≤ x = n.low in
      let hi : x ≤ node_count s = n.high in
      omega (arith, S.long.tables, S.few)
