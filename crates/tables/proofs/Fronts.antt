-- The frontmost node of an entry that has not failed, slot after slot. T is the table of one node. Assumes nothing.
use Prim.Native.Nat.{ℕ, ◌+◌, ◌≤◌, ◌<◌}
use mathlib.Core.Path.{◌≡◌, sym, ap, subst, ◌∙◌}
use mathlib.Core.Logic.{◌≢◌}
use mathlib.Core.Bool.{Bool, true, false, not}
use mathlib.Core.List.{List}
use native.Mathlib.Decide.{dec_lt}
use native.Mathlib.Omega.{arith}
use lib.ListN.{length, get_or, get_or-eq_default}
use lib.Dec.{eqb}
use borrow.Author.Tests.{eqb-true, not-true, not-false}
use Rattle.model.specs.Memory.{has_node}
use Rattle.model.specs.Tables.{slot_place, slot_at, entry_size, entry, first_of}
use Rattle.model.specs.Lookup.{frontmost}
use Rattle.model.proofs.Tables.{entry_length, entry_at, entry_first}
use Rattle.model.proofs.TableSteps.{size_goes, size_leaves, size_ends}
use Rattle.model.proofs.NextHop.{front_is, front_first}
use Rattle.tables.specs.Places.{Entry}

-- the entry stands in the table
fits : (K : ℕ) (T : List ℕ) (i j : ℕ) → Entry T K i j → slot_place i j K ≤ length T
fits K T i j E = omega (arith, E.long, E.depth, E.level, E.digit)

-- the first k slots hold failed nodes
pub record Passed (failed K : ℕ) (T : List ℕ) (i j k : ℕ) : Type 0 where
  pub within : k ≤ entry_size K T i j
  pub passed : (m : ℕ) → m < k → has_node failed (slot_at T i j m) ≡ true

module _ (failed K : ℕ) (T : List ℕ) (i j : ℕ) where
  module _ (k : ℕ) (p : Passed failed K T i j k) where
    -- one more failed node
    pub passed_more : k < K → slot_at T i j k ≢ 0 → (r : Bool) → r ≡ has_node failed (slot_at T i j k) → not r ≡ false → Passed failed K T i j (k + 1)
    passed_more l some r e f = record { within = size_goes K T i j k p.within l some; passed = λ m h. go m h (dec_lt m k) }
      where
        go : (m : ℕ) → m < k + 1 → Dec (m < k) → has_node failed (slot_at T i j m) ≡ true
        go m h (yes g) = p.passed m g
        go m h (no g) =
            let w : m ≡ k = omega arith in
            ap (λ (m : ℕ). has_node failed (slot_at T i j m)) w ∙ sym e ∙ not-false r f

    module _ (E : Entry T K i j) where
      long : length (entry K T i j) ≡ entry_size K T i j
      long = entry_length K T i j (fits K T i j E)

      before : (m : ℕ) → m < k → has_node failed (get_or (entry K T i j) m 0) ≡ true
      before m l = ap (has_node failed) (entry_at K T i j (fits K T i j E) m (omega (arith, p.within))) ∙ p.passed m l

      -- a node that has not failed is the frontmost
      pub front_found : k < K → slot_at T i j k ≢ 0 → (r : Bool) → r ≡ has_node failed (slot_at T i j k) → not r ≡ true
          → record { node = slot_at T i j k; passed_over = k } ≡ frontmost failed (entry K T i j)
      front_found l some r e f =
          let in_size : k + 1 ≤ entry_size K T i j = size_goes K T i j k p.within l some in
          let at : get_or (entry K T i j) k 0 ≡ slot_at T i j k = entry_at K T i j (fits K T i j E) k (omega arith) in
          ap (λ (v : ℕ). record { node = v; passed_over = k }) (sym at)
          ∙ front_is failed (entry K T i j) k (omega (arith, long)) before (λ h. ap (has_node failed) at ∙ sym e ∙ not-true r f)

      -- where the entry ends there is none
      ended : k ≡ entry_size K T i j → record { node = 0; passed_over = k } ≡ frontmost failed (entry K T i j)
      ended e =
          ap (λ (v : ℕ). record { node = v; passed_over = k }) (sym (get_or-eq_default (entry K T i j) 0 (omega (arith, long))))
          ∙ front_is failed (entry K T i j) k (omega (arith, long)) before (λ h. absurd (omega (arith, long)))

      pub front_empty : slot_at T i j k ≡ 0 → record { node = 0; passed_over = k } ≡ frontmost failed (entry K T i j)
      front_empty e = ended (size_leaves K T i j k p.within e)

      pub front_past : k ≤ K → K ≤ k → record { node = 0; passed_over = K } ≡ frontmost failed (entry K T i j)
      front_past l g =
          let w : k ≡ K = omega arith in
          subst (λ (n : ℕ). record { node = 0; passed_over = n } ≡ frontmost failed (entry K T i j)) w (ended (w ∙ size_ends K T i j k p.within g))

-- where none has failed it is the first
pub first_front : (failed K : ℕ) (T : List ℕ) (i j : ℕ) → Entry T K i j → 1 ≤ K → (r : Bool) → r ≡ eqb failed 0 → r ≡ true → (v : ℕ) → v ≡ first_of T i j
    → record { node = v; passed_over = 0 } ≡ frontmost failed (entry K T i j)
first_front failed K T i j E some r q h v is =
    let at : v ≡ get_or (entry K T i j) 0 0 = is ∙ sym (entry_first K T i j (fits K T i j E) some) in
    ap (λ (v : ℕ). record { node = v; passed_over = 0 }) at
    ∙ front_first (entry K T i j)
    ∙ ap (λ (f : ℕ). frontmost f (entry K T i j)) (sym (eqb-true failed 0 (sym q ∙ h)))
