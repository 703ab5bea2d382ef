-- The founded state is sound, for all settings in range and every valid id. Assumes nothing.
use Prim.Native.Nat.{ℕ, ◌+◌, ◌≤◌, ◌<◌}
use mathlib.Core.Path.{◌≡◌, refl, sym, ap₂, subst, subst₃, ◌∙◌}
use mathlib.Core.Logic.{◌≢◌, ◌⊎◌, inl, inr}
use mathlib.Core.Bool.{true}
use mathlib.Core.List.{List, [], ◌∷◌}
use native.Mathlib.Omega.{arith}
use lib.ListN.{length, get_or, length-set}
use lib.Seq.{get_or-set_other}
use borrow.Author.Tests.{eq-eqb}
use Rattle.model.specs.Ids.{valid_id}
use Rattle.model.specs.Memory.{state_length, tables_length, base, digits, depth, node_count, node_of, id_of, is_in_system, zeroed, table_start, table_of}
use Rattle.model.specs.Tables.{own_table}
use Rattle.model.specs.Sound.{sound}
use Rattle.model.specs.Join.{with_settings, new_node, founded}
use Rattle.model.proofs.Memory.{same_id, same_status, same_requests, same_notices, node_length, node_stored, node_outside, stored_length, stored_outside, stored_same, zeroed_length, zeroed_within}
use Rattle.model.proofs.Status.{IsNode, RecordOk, StatusOk, rests}
use Rattle.model.proofs.NodeCounts.{CountsOk, Fresh, fresh_counts}
use Rattle.model.proofs.Ids.{InRange}
use Rattle.model.proofs.Sound.{TableOk, Long, Sound, sound_of}
use Rattle.model.proofs.OwnTable.{own_long, own_table_lem}

-- words 0 to 3 hold the settings and the number of nodes
pub record Settings (s : List ℕ) (b d K n : ℕ) : Type 0 where
  pub base : base s ≡ b
  pub digits : digits s ≡ d
  pub depth : depth s ≡ K
  pub count : node_count s ≡ n

pub settings_stored : (b d K n : ℕ) (s : List ℕ) → 4 ≤ length s → Settings (with_settings s b d K n) b d K n
settings_stored b d K n [] h = absurd (omega arith)
settings_stored b d K n (w ∷ []) h = absurd (omega arith)
settings_stored b d K n (w ∷ v ∷ []) h = absurd (omega arith)
settings_stored b d K n (w ∷ v ∷ u ∷ []) h = absurd (omega arith)
settings_stored b d K n (w ∷ v ∷ u ∷ z ∷ s) h = record { base = refl; digits = refl; depth = refl; count = refl }

module _ (s : List ℕ) (b d K n : ℕ) where
  pub settings_length : length (with_settings s b d K n) ≡ length s
  settings_length = simp length-set

  pub settings_outside : (p : ℕ) → 4 ≤ p → get_or (with_settings s b d K n) p 0 ≡ get_or s p 0
  settings_outside p h =
      let n0 : p ≢ 0 = omega arith in
      let n1 : p ≢ 1 = omega arith in
      let n2 : p ≢ 2 = omega arith in
      let n3 : p ≢ 3 = omega arith in
      simp get_or-set_other

module _ (s t : List ℕ) (b d K id : ℕ) (long : Long s t) (range : InRange b d K) (valid : valid_id b d id ≡ true) where
  s₀ : List ℕ
  s₀ = with_settings (zeroed state_length s) b d K 1

  s₁ : List ℕ
  s₁ = (founded s t b d K id).state

  t₁ : List ℕ
  t₁ = (founded s t b d K id).tables

  long₀ : state_length ≤ length s₀
  unfolding s₀
  long₀ =
      let e = settings_length (zeroed state_length s) b d K 1 in
      let f = zeroed_length state_length s long.state in
      let l : state_length ≤ length s = long.state in
      omega arith

  stored : node_of s₁ 1 ≡ new_node id
  unfolding s₁ founded s₀
  stored = node_stored s₀ 1 (new_node id) (omega (arith, long₀))

  -- a word outside the record of node 1 is that of the settings
  outside : (p : ℕ) → (p < 8) ⊎ (16 ≤ p) → get_or s₁ p 0 ≡ get_or s₀ p 0
  unfolding s₁ founded s₀
  outside p h = node_outside s₀ 1 (new_node id) (omega (arith, long₀)) p h

  -- past the settings and outside that record every word of the fixed length is zero
  zero : (p : ℕ) → 4 ≤ p → (p < 8) ⊎ (16 ≤ p) → p < state_length → get_or s₁ p 0 ≡ 0
  unfolding s₀
  zero p l h m =
      outside p h ∙ settings_outside (zeroed state_length s) b d K 1 p l ∙ zeroed_within state_length s long.state p m

  settings : Settings s₁ b d K 1
  unfolding s₀
  settings =
      let r = settings_stored b d K 1 (zeroed state_length s) (omega (arith, zeroed_length state_length s long.state, long.state)) in
      record {
        base = outside 0 (inl (omega arith)) ∙ r.base;
        digits = outside 1 (inl (omega arith)) ∙ r.digits;
        depth = outside 2 (inl (omega arith)) ∙ r.depth;
        count = outside 3 (inl (omega arith)) ∙ r.count;
      }

  range₁ : InRange (base s₁) (digits s₁) (depth s₁)
  range₁ = subst₃ InRange (sym settings.base) (sym settings.digits) (sym settings.depth) range

  valid₁ : valid_id (base s₁) (digits s₁) (id_of s₁ 1) ≡ true
  valid₁ =
      subst₃ (λ (b d id : ℕ). valid_id b d id ≡ true) (sym settings.base) (sym settings.digits) (sym (same_id stored)) valid

  -- node 1 is the only one
  only : (x : ℕ) → IsNode s₁ x → 1 ≡ x
  only x i = omega (arith, settings.count, i.low, i.high)

  first : IsNode s₁ 1
  first = record { low = omega arith; high = omega (arith, settings.count) }

  fits : table_start 1 + 512 ≤ length (zeroed tables_length t)
  fits = omega (arith, zeroed_length tables_length t long.tables, long.tables)

  own_size : length (own_table d id 1) ≡ 512
  own_size = own_long d id 1 range.digits_most

  table : table_of t₁ 1 ≡ own_table (digits s₁) (id_of s₁ 1) 1
  unfolding t₁ founded
  table =
      stored_same (zeroed tables_length t) 1 (own_table d id 1) own_size fits
      ∙ sym (ap₂ (λ (d id : ℕ). own_table d id 1) settings.digits (same_id stored))

  long₁ : Long s₁ t₁
  unfolding s₁ t₁ founded s₀
  long₁ = record {
    state = omega (arith, node_length s₀ 1 (new_node id) (omega (arith, long₀)), long₀);
    tables =
        omega (
          arith,
          stored_length (zeroed tables_length t) 1 (own_table d id 1) own_size fits,
          zeroed_length tables_length t long.tables,
          long.tables,
        );
  }

  tables_zero : (p : ℕ) → 512 ≤ p → p < tables_length → get_or t₁ p 0 ≡ 0
  unfolding t₁ founded
  tables_zero p l h =
      stored_outside (zeroed tables_length t) 1 (own_table d id 1) own_size fits p (inr l)
      ∙ zeroed_within tables_length t long.tables p h

  pub founded_ok : Sound (founded s t b d K id).state (founded s t b d K id).tables
  unfolding s₁ t₁
  founded_ok = record {
    long = long₁;
    settings = range₁;
    some = omega (arith, settings.count);
    few = omega (arith, settings.count);
    ids = λ x i. subst (λ (x : ℕ). valid_id (base s₁) (digits s₁) (id_of s₁ x) ≡ true) (only x i) valid₁;
    new = λ x y i l h. absurd (omega (arith, only x i));
    tables = λ x i. subst (λ (x : ℕ). TableOk s₁ x (table_of t₁ x)) (only x i) (rw table (own_table_lem s₁ 1 range₁ first valid₁).rules);
    statuses = λ x i. subst (StatusOk s₁) (only x i) (subst (RecordOk s₁ 1) (sym stored) (rests s₁ 1 (new_node id)));
    counts = λ x i. subst (λ (x : ℕ). CountsOk s₁ x (node_of s₁ x)) (only x i) (subst (CountsOk s₁ 1) (sym stored) (fresh_counts s₁ 1 (new_node id) refl refl refl));
    head = λ p l h. zero p l (inl h) (omega arith);
    rest = λ p l h. zero p (omega (arith, l)) (inr (omega (arith, settings.count, l))) h;
    tables_rest = λ p l h. tables_zero p (omega (arith, settings.count, l)) h;
  }

  pub founded_only : (x : ℕ) → IsNode (founded s t b d K id).state x → 1 ≡ x
  unfolding s₁
  founded_only = only

  pub founded_in_system : (x : ℕ) → IsNode (founded s t b d K id).state x → is_in_system (founded s t b d K id).state x ≡ true
  unfolding s₁
  founded_in_system x i = subst (λ (x : ℕ). is_in_system s₁ x ≡ true) (only x i) (eq-eqb _ 0 (same_status stored))

  -- nothing is counted yet
  pub founded_fresh : (x : ℕ) → IsNode (founded s t b d K id).state x → Fresh (founded s t b d K id).state x
  unfolding s₁
  founded_fresh x i = subst (Fresh s₁) (only x i) (same_requests stored, same_notices stored)

  pub founded_sound : sound (founded s t b d K id).state (founded s t b d K id).tables ≡ true
  founded_sound = sound_of (founded s t b d K id).state (founded s t b d K id).tables founded_ok
