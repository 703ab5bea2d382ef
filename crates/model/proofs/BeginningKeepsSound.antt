-- A taken beginning leaves a sound state: one node more, copying, with its own entries only. Assumes nothing.
use Prim.Native.Nat.{ℕ, ◌+◌, ◌*◌, ◌≤◌, ◌<◌}
use mathlib.Core.Path.{◌≡◌, refl, sym, ap, subst, subst₂, subst₃, ◌∙◌}
use mathlib.Core.Logic.{◌≢◌, ◌⊎◌, inl, inr, ⊎_elim}
use mathlib.Core.Bool.{true}
use mathlib.Core.List.{List}
use native.Mathlib.Nat.{eq-or-lt_of_le}
use native.Mathlib.Omega.{arith}
use lib.ListN.{length, get_or}
use Rattle.model.specs.Ids.{valid_id}
use Rattle.model.specs.Memory.{tables_length, base, digits, depth, node_count, node_of, id_of, is_in_system, copying, table_start, table_of}
use Rattle.model.specs.Tables.{own_table}
use Rattle.model.specs.Join.{new_node, joining_node, begun}
use Rattle.model.proofs.Memory.{same_id, stored_length, stored_outside, stored_same, stored_other}
use Rattle.model.proofs.NodeStored.{stored_long, stored_count, stored_record, stored_word, stored_kept}
use Rattle.model.proofs.Status.{IsNode, node_among, RecordOk, StatusOk, ok_copying, joins, attached_same, in_system_same}
use Rattle.model.proofs.NodeCounts.{CountsOk, joining_counts}
use Rattle.model.proofs.Ids.{InRange}
use Rattle.model.proofs.Sound.{TableOk, Long, Sound, table_fits}
use Rattle.model.proofs.OwnTable.{own_long, own_table_lem}
use Rattle.model.proofs.Later.{Later, table_later, status_later, counts_later}

-- what the refusals of a beginning leave
pub record CanBegin (s : List ℕ) (id gateway : ℕ) : Type 0 where
  pub valid : valid_id (base s) (digits s) id ≡ true
  pub new : (y : ℕ) → IsNode s y → id_of s y ≢ id
  pub is_node : IsNode s gateway
  pub in_system : is_in_system s gateway ≡ true
  pub room : node_count s < 64

module _ (s t : List ℕ) (id gateway : ℕ) (S : Sound s t) (c : CanBegin s id gateway) where
  s₁ : List ℕ
  s₁ = (begun s t id gateway).state

  t₁ : List ℕ
  t₁ = (begun s t id gateway).tables

  fits : 8 * (node_count s + 1) + 8 ≤ length s
  fits = omega (arith, S.long.state, c.room)

  stored : node_of s₁ (node_count s + 1) ≡ joining_node (new_node id) copying gateway
  unfolding s₁ begun
  stored = stored_record s (node_count s + 1) (node_count s + 1) (joining_node (new_node id) copying gateway) (omega arith) fits

  same : (p : ℕ) → p ≢ 3 → (p < 8 * (node_count s + 1)) ⊎ (8 * (node_count s + 1) + 8 ≤ p) → get_or s₁ p 0 ≡ get_or s p 0
  unfolding s₁ begun
  same = stored_word s (node_count s + 1) (node_count s + 1) (joining_node (new_node id) copying gateway) (omega arith) fits

  count : node_count s₁ ≡ node_count s + 1
  unfolding s₁ begun
  count = stored_count s (node_count s + 1) (node_count s + 1) (joining_node (new_node id) copying gateway) (omega arith) fits

  pub begun_count : node_count (begun s t id gateway).state ≡ node_count s + 1
  unfolding s₁
  begun_count = count

  -- the new node's record
  pub begun_new : node_of (begun s t id gateway).state (node_count s + 1) ≡ joining_node (new_node id) copying gateway
  unfolding s₁
  begun_new = stored

  pub begun_kept : (y : ℕ) → IsNode s y → node_of (begun s t id gateway).state y ≡ node_of s y
  unfolding begun
  begun_kept y n =
      stored_kept s (node_count s + 1) (node_count s + 1) (joining_node (new_node id) copying gateway) (omega arith) fits y n.low
      (omega (arith, n.high))

  pub begun_word : (p : ℕ) → p ≢ 3 → (p < 8 * (node_count s + 1)) ⊎ (8 * (node_count s + 1) + 8 ≤ p)
      → get_or (begun s t id gateway).state p 0 ≡ get_or s p 0
  unfolding s₁
  begun_word = same

  node_on : (y : ℕ) → IsNode s y → IsNode (begun s t id gateway).state y
  node_on = node_among s (begun s t id gateway).state (omega (arith, begun_count))

  -- a node is the new one or an earlier one
  pub begun_node : (y : ℕ) → IsNode (begun s t id gateway).state y → (y ≡ node_count s + 1) ⊎ IsNode s y
  begun_node y n =
      ⊎_elim (λ e. inl e) (λ h. inr (record { low = n.low; high = omega (arith, h) }))
      (eq-or-lt_of_le (omega (arith, begun_count, n.high)))

  pub begun_later : Later s (begun s t id gateway).state
  unfolding s₁
  begun_later = record {
    base = same 0 (omega arith) (inl (omega arith));
    digits = same 1 (omega arith) (inl (omega arith));
    depth = same 2 (omega arith) (inl (omega arith));
    ids = λ y n n'. same_id (begun_kept y n);
    stays = λ y n e. node_on y n;
    attached = λ y n e. attached_same s s₁ y (begun_kept y n) ∙ e;
    in_system = λ y n e. in_system_same s s₁ y (begun_kept y n) ∙ e;
  }

  kept : (y : ℕ) → IsNode s y → node_of s₁ y ≡ node_of s y
  unfolding s₁
  kept = begun_kept

  later : Later s s₁
  unfolding s₁
  later = begun_later

  which : (y : ℕ) → IsNode s₁ y → (y ≡ node_count s + 1) ⊎ IsNode s y
  unfolding s₁
  which = begun_node

  range : InRange (base s₁) (digits s₁) (depth s₁)
  range = subst₃ InRange (sym later.base) (sym later.digits) (sym later.depth) S.settings

  valid : (y : ℕ) → IsNode s₁ y → valid_id (base s₁) (digits s₁) (id_of s₁ y) ≡ true
  valid y n = ⊎_elim (λ e. with_id (ap (id_of s₁) e ∙ same_id stored) c.valid) (λ o. with_id (same_id (kept y o)) (S.ids y o)) (which y n)
    where
      with_id : {id : ℕ} → id_of s₁ y ≡ id → valid_id (base s) (digits s) id ≡ true → valid_id (base s₁) (digits s₁) (id_of s₁ y) ≡ true
      with_id e =
          subst₃ (λ (b d id : ℕ). valid_id b d id ≡ true) (sym later.base) (sym later.digits) (sym e)

  distinct : (y z : ℕ) → IsNode s₁ y → 1 ≤ z → z < y → id_of s₁ z ≢ id_of s₁ y
  distinct y z n l h e = ⊎_elim newest (λ o. S.new y z o l h (sym (same_id (kept z (record { low = l; high = omega (arith, o.high) }))) ∙ e ∙ same_id (kept y o))) (which y n)
    where
      newest : y ≡ node_count s + 1 → ⊥
      newest q =
          let o : IsNode s z = record { low = l; high = omega arith } in
          c.new z o (sym (same_id (kept z o)) ∙ e ∙ ap (id_of s₁) q ∙ same_id stored)

  is_new : IsNode s₁ (node_count s + 1)
  is_new = record { low = omega arith; high = omega (arith, count) }

  own_size : length (own_table (digits s) id (node_count s + 1)) ≡ 512
  own_size = own_long (digits s) id (node_count s + 1) S.settings.digits_most

  new_fits : table_start (node_count s + 1) + 512 ≤ length t
  new_fits = omega (arith, S.long.tables, c.room)

  -- an earlier node's table is as it was
  pub begun_table : (y : ℕ) → IsNode s y → table_of (begun s t id gateway).tables y ≡ table_of t y
  unfolding begun
  begun_table y o =
      stored_other t (node_count s + 1) (own_table (digits s) id (node_count s + 1)) own_size new_fits y (omega arith) o.low
      (omega (arith, o.high)) (table_fits s t S y o)

  -- the new node's is its own entries
  pub begun_own : table_of (begun s t id gateway).tables (node_count s + 1) ≡ own_table (digits s) id (node_count s + 1)
  unfolding begun
  begun_own = stored_same t (node_count s + 1) (own_table (digits s) id (node_count s + 1)) own_size new_fits

  table : (y : ℕ) → IsNode s₁ y → TableOk s₁ y (table_of t₁ y)
  unfolding t₁
  table y n = ⊎_elim newest (λ o. rw (begun_table y o) (table_later s s₁ later y (table_of t y) o n (S.tables y o))) (which y n)
    where
      newest : y ≡ node_count s + 1 → TableOk s₁ y (table_of t₁ y)
      newest e =
          subst (λ (y : ℕ). TableOk s₁ y (table_of t₁ y)) (sym e)
          (rw begun_own
          (subst₂ (λ (d id : ℕ). TableOk s₁ (node_count s + 1) (own_table d id (node_count s + 1))) later.digits (same_id stored)
          (own_table_lem s₁ (node_count s + 1) range is_new (valid (node_count s + 1) is_new)).rules))

  status : (y : ℕ) → IsNode s₁ y → StatusOk s₁ y
  status y n = ⊎_elim newest (λ o. status_later s s₁ later y o n (kept y o) (S.statuses y o)) (which y n)
    where
      newest : y ≡ node_count s + 1 → StatusOk s₁ y
      newest e =
          subst (StatusOk s₁) (sym e)
          (subst (RecordOk s₁ (node_count s + 1)) (sym stored)
          (ok_copying refl
          (record {
            is_node = node_among s s₁ (omega (arith, count)) gateway c.is_node;
            in_system = later.in_system gateway c.is_node c.in_system;
            rest = joins (new_node id) copying gateway;
          })))

  counts : (y : ℕ) → IsNode s₁ y → CountsOk s₁ y (node_of s₁ y)
  counts y n = ⊎_elim newest (λ o. counts_later s s₁ later y o n (kept y o) (S.statuses y o) (S.counts y o)) (which y n)
    where
      newest : y ≡ node_count s + 1 → CountsOk s₁ y (node_of s₁ y)
      newest e =
          subst (λ (y : ℕ). CountsOk s₁ y (node_of s₁ y)) (sym e)
          (subst (CountsOk s₁ (node_count s + 1)) (sym stored)
          (joining_counts s₁ (node_count s + 1) (new_node id) copying gateway (inl refl) refl (omega arith)))

  pub begun_long : (length (begun s t id gateway).state ≡ length s) × (length (begun s t id gateway).tables ≡ length t)
  unfolding begun
  begun_long = (
    stored_long s (node_count s + 1) (node_count s + 1) (joining_node (new_node id) copying gateway) (omega arith) fits,
    stored_length t (node_count s + 1) (own_table (digits s) id (node_count s + 1)) own_size new_fits,
  )

  long : Long s₁ t₁
  unfolding s₁ t₁
  long = record { state = omega (arith, begun_long.0, S.long.state); tables = omega (arith, begun_long.1, S.long.tables) }

  pub begun_byte : (p : ℕ) → (p < 512 * node_count s) ⊎ (512 * node_count s + 512 ≤ p) → get_or (begun s t id gateway).tables p 0 ≡ get_or t p 0
  unfolding begun
  begun_byte p h =
      stored_outside t (node_count s + 1) (own_table (digits s) id (node_count s + 1)) own_size new_fits p
      (⊎_elim (λ l. inl (omega arith)) (λ g. inr (omega arith)) h)

  tables_zero : (p : ℕ) → 512 * node_count s₁ ≤ p → p < tables_length → get_or t₁ p 0 ≡ 0
  unfolding t₁
  tables_zero p l h = begun_byte p (inr (omega (arith, count, l))) ∙ S.tables_rest p (omega (arith, count)) h

  pub begun_ok : Sound (begun s t id gateway).state (begun s t id gateway).tables
  unfolding s₁ t₁
  begun_ok = record {
    long = long;
    settings = range;
    some = omega (arith, count);
    few = omega (arith, count, c.room);
    ids = valid;
    new = distinct;
    tables = table;
    statuses = status;
    counts = counts;
    head = λ p l h. same p (omega arith) (inl (omega arith)) ∙ S.head p l h;
    rest = λ p l h. same p (omega (arith, l)) (inr (omega (arith, count, l))) ∙ S.rest p (omega (arith, count, l)) h;
    tables_rest = tables_zero;
  }
