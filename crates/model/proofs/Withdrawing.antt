-- A taken withdrawal leaves a sound state without the highest-numbered node, and the network goes onward. Assumes nothing.
use Prim.Native.Nat.{ℕ, ◌+◌, ◌-◌, ◌*◌, ◌≤◌, ◌<◌}
use mathlib.Core.Path.{◌≡◌, sym, ap, subst₃, ◌∙◌}
use mathlib.Core.Logic.{◌≢◌, ◌⊎◌, inl, inr}
use mathlib.Core.Bool.{true, false}
use mathlib.Core.List.{List}
use native.Mathlib.Decide.{dec_lt}
use native.Mathlib.Omega.{arith}
use lib.ListN.{length, get_or, replicate, length-replicate, get_or-replicate}
use Rattle.model.specs.Ids.{valid_id}
use Rattle.model.specs.Memory.{state_length, tables_length, node_count, node_of, target_of, in_system, is_attached, table_start, table_of}
use Rattle.model.specs.Join.{no_node, withdrawn}
use Rattle.model.proofs.Bools.{not_both}
use Rattle.model.proofs.Memory.{same_id, table_at, stored_length, stored_outside, stored_same, stored_other}
use Rattle.model.proofs.NodeStored.{stored_long, stored_count, stored_record, stored_at, stored_word, stored_kept}
use Rattle.model.proofs.Tables.{grows_refl}
use Rattle.model.proofs.Ids.{InRange}
use Rattle.model.proofs.Status.{IsNode, StatusOk, ok_in_system, ok_copying, ok_waiting, ok_notifying, attached_in_system, attached_notifying, attached_by, attached_other, attached_same, in_system_same}
use Rattle.model.proofs.Sound.{Sound, node_fits, table_fits}
use Rattle.model.proofs.Later.{Later, table_later, status_later, counts_later}
use Rattle.model.proofs.TablesOnlyGrow.{Onward, later_onward}

module _ (s t : List ℕ) (S : Sound s t) where
  abbrev x : ℕ
  x = node_count s

  highest : IsNode s (node_count s)
  highest = record { low = S.some; high = omega arith }

  fits : 8 * node_count s + 8 ≤ length s
  fits = node_fits s t S (node_count s) highest

  fits_table : table_start (node_count s) + 512 ≤ length t
  fits_table = table_fits s t S (node_count s) highest

  blank_size : length {A = ℕ} (replicate 512 0) ≡ 512
  blank_size = length-replicate {A = ℕ} 512 0

  -- ---- what the memory holds then

  pub withdrawn_long : (length (withdrawn s t).state ≡ length s) × (length (withdrawn s t).tables ≡ length t)
  unfolding withdrawn
  withdrawn_long = (stored_long s (x - 1) x no_node S.some fits, stored_length t x (replicate 512 0) blank_size fits_table)

  pub withdrawn_count : node_count (withdrawn s t).state ≡ node_count s - 1
  unfolding withdrawn
  withdrawn_count = stored_count s (x - 1) x no_node S.some fits

  pub withdrawn_record : node_of (withdrawn s t).state (node_count s) ≡ no_node
  unfolding withdrawn
  withdrawn_record = stored_record s (x - 1) x no_node S.some fits

  pub withdrawn_table : table_of (withdrawn s t).tables (node_count s) ≡ replicate 512 0
  unfolding withdrawn
  withdrawn_table = stored_same t x (replicate 512 0) blank_size fits_table

  -- the words of its record and the bytes of its table are zero
  pub record_zero : (p : ℕ) → 8 * node_count s ≤ p → p < 8 * node_count s + 8 → get_or (withdrawn s t).state p 0 ≡ 0
  unfolding withdrawn
  record_zero p low high =
      let w : p ≡ 8 * x + (p - 8 * x) = omega arith in
      ap (λ (p : ℕ). get_or (withdrawn s t).state p 0) w
      ∙ stored_at s (x - 1) x no_node S.some fits (p - 8 * x) (omega arith)
      ∙ get_or-replicate 8 (p - 8 * x) 0 0 (omega arith)

  pub table_zero : (p : ℕ) → 512 * (node_count s - 1) ≤ p → p < 512 * node_count s → get_or (withdrawn s t).tables p 0 ≡ 0
  table_zero p low high =
      let w : p ≡ table_start x + (p - table_start x) = omega arith in
      let h : p - table_start x < 512 = omega (arith, S.some) in
      ap (λ (p : ℕ). get_or (withdrawn s t).tables p 0) w
      ∙ sym (table_at (withdrawn s t).tables x (omega (arith, withdrawn_long.1, fits_table)) (p - table_start x) h)
      ∙ ap (λ (T : List ℕ). get_or T (p - table_start x) 0) withdrawn_table
      ∙ get_or-replicate 512 (p - table_start x) 0 0 h

  -- and every other is as it was
  pub word_kept : (p : ℕ) → p ≢ 3 → (p < 8 * node_count s) ⊎ (8 * node_count s + 8 ≤ p) → get_or (withdrawn s t).state p 0 ≡ get_or s p 0
  unfolding withdrawn
  word_kept = stored_word s (x - 1) x no_node S.some fits

  pub byte_kept : (p : ℕ) → (p < 512 * (node_count s - 1)) ⊎ (512 * node_count s ≤ p) → get_or (withdrawn s t).tables p 0 ≡ get_or t p 0
  unfolding withdrawn
  byte_kept p h = stored_outside t x (replicate 512 0) blank_size fits_table p (outside h)
    where
      outside : (p < 512 * (x - 1)) ⊎ (512 * x ≤ p) → (p < table_start x) ⊎ (table_start x + 512 ≤ p)
      outside (inl l) = inl l
      outside (inr g) = inr (omega (arith, S.some))

  record_kept : (y : ℕ) → 1 ≤ y → y < node_count s → node_of (withdrawn s t).state y ≡ node_of s y
  unfolding withdrawn
  record_kept y low high = stored_kept s (x - 1) x no_node S.some fits y low (omega arith)

  -- the table of each node below it too
  pub table_kept : (y : ℕ) → 1 ≤ y → y < node_count s → table_of (withdrawn s t).tables y ≡ table_of t y
  unfolding withdrawn
  table_kept y low high =
      stored_other t x (replicate 512 0) blank_size fits_table y S.some low (omega arith)
      (table_fits s t S y (record { low = low; high = omega arith }))

  -- ---- a node that copies or waits

  module _ (away : is_attached s (node_count s) ≡ false) where
    s₁ : List ℕ
    s₁ = (withdrawn s t).state

    t₁ : List ℕ
    t₁ = (withdrawn s t).tables

    -- an attached node is below it
    attached_below : (y : ℕ) → IsNode s y → is_attached s y ≡ true → y < node_count s
    attached_below y n e = omega (arith, n.high, attached_other s x y away e)

    -- it asks another, so there are two
    another : 1 < node_count s
    another = go (S.statuses x highest)
      where
        asks : IsNode s (target_of s x) → is_attached s (target_of s x) ≡ true → 1 < node_count s
        asks n e = omega (arith, n.low, attached_below (target_of s x) n e)

        go : StatusOk s (node_count s) → 1 < node_count s
        go (ok_in_system e o) = absurd (not_both (is_attached s x) (attached_by s x in_system e) away)
        go (ok_copying e o) = asks o.is_node (attached_in_system s (target_of s x) o.in_system)
        go (ok_waiting e o) = asks o.is_node o.attached
        go (ok_notifying e o) = absurd (not_both (is_attached s x) (attached_notifying s x e) away)

    count : node_count s₁ ≡ x - 1
    unfolding s₁
    count = withdrawn_count

    -- the nodes left are those below it
    before : (y : ℕ) → IsNode s₁ y → y < node_count s
    before y n = omega (arith, n.high, count, another)

    back : (y : ℕ) → IsNode s₁ y → IsNode s y
    back y n = record { low = n.low; high = omega (arith, before y n) }

    kept : (y : ℕ) → IsNode s₁ y → node_of s₁ y ≡ node_of s y
    unfolding s₁
    kept y n = record_kept y n.low (before y n)

    same : (p : ℕ) → p ≢ 3 → (p < 8 * node_count s) ⊎ (8 * node_count s + 8 ≤ p) → get_or s₁ p 0 ≡ get_or s p 0
    unfolding s₁
    same = word_kept

    pub withdrawn_later : Later s (withdrawn s t).state
    unfolding s₁
    withdrawn_later = record {
      base = same 0 (omega arith) (inl (omega (arith, S.some)));
      digits = same 1 (omega arith) (inl (omega (arith, S.some)));
      depth = same 2 (omega arith) (inl (omega (arith, S.some)));
      ids = λ y n n'. same_id (kept y n');
      stays = λ y n e. stays y n e;
      attached = λ y n e. attached_same s s₁ y (kept y (stays y n e)) ∙ e;
      in_system = λ y n e. in_system_same s s₁ y (kept y (stays y n (attached_in_system s y e))) ∙ e;
    }
      where
        stays : (y : ℕ) → IsNode s y → is_attached s y ≡ true → IsNode s₁ y
        stays y n e = record { low = n.low; high = omega (arith, count, attached_below y n e) }

    l : Later s s₁
    unfolding s₁
    l = withdrawn_later

    words_zero : (p : ℕ) → 8 * node_count s₁ + 8 ≤ p → p < state_length → get_or s₁ p 0 ≡ 0
    unfolding s₁
    words_zero p low high = go (dec_lt p (8 * x + 8))
      where
        go : Dec (p < 8 * node_count s + 8) → get_or s₁ p 0 ≡ 0
        go (yes h) = record_zero p (omega (arith, low, count, another)) h
        go (no g) = word_kept p (omega (arith, low)) (inr (omega arith)) ∙ S.rest p (omega arith) high

    bytes_zero : (p : ℕ) → 512 * node_count s₁ ≤ p → p < tables_length → get_or t₁ p 0 ≡ 0
    unfolding t₁
    bytes_zero p low high = go (dec_lt p (512 * x))
      where
        go : Dec (p < 512 * node_count s) → get_or t₁ p 0 ≡ 0
        go (yes h) = table_zero p (omega (arith, low, count)) h
        go (no g) = byte_kept p (inr (omega arith)) ∙ S.tables_rest p (omega arith) high

    -- each node left was there, with the same record
    pub withdrawn_kept : (y : ℕ) → IsNode (withdrawn s t).state y → IsNode s y × (node_of (withdrawn s t).state y ≡ node_of s y)
    unfolding s₁
    withdrawn_kept y n = (back y n, kept y n)

    pub withdrawn_ok : Sound (withdrawn s t).state (withdrawn s t).tables
    unfolding s₁ t₁
    withdrawn_ok = record {
      long = record {
        state = omega (arith, withdrawn_long.0, S.long.state);
        tables = omega (arith, withdrawn_long.1, S.long.tables);
      };
      settings = subst₃ InRange (sym l.base) (sym l.digits) (sym l.depth) S.settings;
      some = omega (arith, count, another);
      few = omega (arith, count, S.few);
      ids = λ y n.
          subst₃ (λ (b d id : ℕ). valid_id b d id ≡ true) (sym l.base) (sym l.digits) (sym (same_id (kept y n))) (S.ids y (back y n));
      new = λ y z n low less e.
          S.new y z (back y n) low less
          (sym (same_id (kept z (record { low = low; high = omega (arith, n.high) }))) ∙ e ∙ same_id (kept y n));
      tables = λ y n.
          rw (table_kept y n.low (before y n)) (table_later s s₁ l y (table_of t y) (back y n) n (S.tables y (back y n)));
      statuses = λ y n. status_later s s₁ l y (back y n) n (kept y n) (S.statuses y (back y n));
      counts = λ y n. counts_later s s₁ l y (back y n) n (kept y n) (S.statuses y (back y n)) (S.counts y (back y n));
      head = λ p low high. same p (omega arith) (inl (omega (arith, S.some))) ∙ S.head p low high;
      rest = words_zero;
      tables_rest = bytes_zero;
    }

    pub withdrawn_onward : Onward s t (withdrawn s t).state (withdrawn s t).tables
    withdrawn_onward =
        later_onward withdrawn_later
        (λ y a. rw (table_kept y a.node.low (attached_below y a.node a.status)) (grows_refl (table_of t y)))
