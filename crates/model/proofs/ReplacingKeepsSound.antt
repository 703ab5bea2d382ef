-- A step that replaces one node's record and two tables leaves a sound state if the new record and tables keep their rules.
-- Assumes nothing.
use Prim.Native.Nat.{ℕ, ◌+◌, ◌*◌, ◌≤◌, ◌<◌}
use mathlib.Core.Path.{◌≡◌, refl, sym, subst, subst₃, ◌∙◌}
use mathlib.Core.Logic.{◌≢◌, ◌⊎◌, inl, inr}
use mathlib.Core.Bool.{true}
use mathlib.Core.List.{List}
use native.Mathlib.Decide.{ℕ_discrete}
use native.Mathlib.Omega.{arith}
use lib.ListN.{length, get_or}
use Rattle.model.specs.Ids.{valid_id}
use Rattle.model.specs.Memory.{base, digits, depth, node_count, Node, node_of, id_of, is_attached, is_in_system, with_node, table_start, table_of, with_table}
use Rattle.model.specs.Nodes.{suffix_of}
use Rattle.model.proofs.Nodes.{suffix_by}
use Rattle.model.proofs.Memory.{same_id, node_same, words_apart, node_length, node_stored, node_outside, stored_length, stored_outside, stored_same, stored_other}
use Rattle.model.proofs.Status.{IsNode, node_among, RecordOk, StatusOk, attached_same, in_system_same}
use Rattle.model.proofs.NodeCounts.{CountsOk}
use Rattle.model.proofs.Ids.{InRange}
use Rattle.model.proofs.Sound.{TableOk, Long, Sound, node_fits, table_fits}
use Rattle.model.proofs.LearningKeepsRules.{OwnTable}
use Rattle.model.proofs.Later.{Later, table_later, status_later, counts_later}

-- two states that agree but for node x's record, in which x has the same id
pub record Agree (x : ℕ) (s s' : List ℕ) : Type 0 where
  pub words : (p : ℕ) → (p < 8 * x) ⊎ (8 * x + 8 ≤ p) → get_or s' p 0 ≡ get_or s p 0
  pub id : id_of s' x ≡ id_of s x

pub agree_refl : (x : ℕ) (s : List ℕ) → Agree x s s
agree_refl x s = record { words = λ p h. refl; id = refl }

module _ (s : List ℕ) (x : ℕ) (fits : 8 * x + 8 ≤ length s) where
  pub agree_node : (r : Node) → r.id ≡ id_of s x → Agree x s (with_node s x r)
  agree_node r e = record { words = node_outside s x r fits; id = same_id (node_stored s x r fits) ∙ e }

-- two states that agree with one agree
pub agree_both : (x : ℕ) (s s' s'' : List ℕ) → Agree x s s' → Agree x s s'' → Agree x s' s''
agree_both x s s' s'' a b = record { words = λ p h. b.words p h ∙ sym (a.words p h); id = b.id ∙ sym a.id }

module _ (x : ℕ) (s s' : List ℕ) (a : Agree x s s') where
  -- the words of another node's record
  agree_record : (y k : ℕ) → y ≢ x → k < 8 → get_or s' (8 * y + k) 0 ≡ get_or s (8 * y + k) 0
  agree_record y k e h = a.words (8 * y + k) (words_apart x y k e h)

  pub agree_kept : (y : ℕ) → y ≢ x → node_of s' y ≡ node_of s y
  agree_kept y e = node_same s s' y (λ k. agree_record y k e)

  pub agree_id : (y : ℕ) → id_of s' y ≡ id_of s y
  agree_id y = go (ℕ_discrete y x)
    where
      go : Dec (y ≡ x) → id_of s' y ≡ id_of s y
      go (yes e) = subst (λ (y : ℕ). id_of s' y ≡ id_of s y) (sym e) a.id
      go (no e) = same_id (agree_kept y e)

  pub agree_count : 1 ≤ x → node_count s' ≡ node_count s
  agree_count h = a.words 3 (inl (omega arith))

  -- the settings, and so the common suffix of any two nodes
  agree_base : 1 ≤ x → base s' ≡ base s
  agree_base h = a.words 0 (inl (omega arith))

  pub agree_digits : 1 ≤ x → digits s' ≡ digits s
  agree_digits h = a.words 1 (inl (omega arith))

  pub agree_depth : 1 ≤ x → depth s' ≡ depth s
  agree_depth h = a.words 2 (inl (omega arith))

  pub agree_range : 1 ≤ x → InRange (base s) (digits s) (depth s) → InRange (base s') (digits s') (depth s')
  agree_range h = subst₃ InRange (sym (agree_base h)) (sym (agree_digits h)) (sym (agree_depth h))

  pub agree_suffix : 1 ≤ x → (y z : ℕ) → suffix_of s' y z ≡ suffix_of s y z
  agree_suffix h y z = suffix_by s s' y z (agree_digits h) (agree_id y) (agree_id z)

  -- the later state, where x stays attached if it was, and in system if it was
  pub agree_later : 1 ≤ x → (is_attached s x ≡ true → is_attached s' x ≡ true) → (is_in_system s x ≡ true → is_in_system s' x ≡ true) → Later s s'
  agree_later h f g = record {
    base = agree_base h;
    digits = agree_digits h;
    depth = agree_depth h;
    ids = λ y n n'. agree_id y;
    stays = λ y n e. node_among s s' (omega (arith, agree_count h)) y n;
    attached = λ y n. attached y (ℕ_discrete y x);
    in_system = λ y n. in_system y (ℕ_discrete y x);
  }
    where
      attached : (y : ℕ) → Dec (y ≡ x) → is_attached s y ≡ true → is_attached s' y ≡ true
      attached y (yes e) = subst (λ (y : ℕ). is_attached s y ≡ true → is_attached s' y ≡ true) (sym e) f
      attached y (no e) = λ q. attached_same s s' y (agree_kept y e) ∙ q

      in_system : (y : ℕ) → Dec (y ≡ x) → is_in_system s y ≡ true → is_in_system s' y ≡ true
      in_system y (yes e) = subst (λ (y : ℕ). is_in_system s y ≡ true → is_in_system s' y ≡ true) (sym e) g
      in_system y (no e) = λ q. in_system_same s s' y (agree_kept y e) ∙ q

-- ---- two tables replaced

module _ (s t : List ℕ) (S : Sound s t) (x y : ℕ) (nx : IsNode s x) (ny : IsNode s y) (Tx Ty : List ℕ) (size_x : length Tx ≡ 512)
    (size_y : length Ty ≡ 512) where
  fits : (z : ℕ) → IsNode s z → table_start z + 512 ≤ length t
  fits z n = table_fits s t S z n

  length_y : length (with_table t y Ty) ≡ length t
  length_y = stored_length t y Ty size_y (fits y ny)

  fits_x : table_start x + 512 ≤ length (with_table t y Ty)
  fits_x = omega (arith, fits x nx, length_y)

  replaced_length : length (with_table (with_table t y Ty) x Tx) ≡ length t
  replaced_length = stored_length (with_table t y Ty) x Tx size_x fits_x ∙ length_y

  replaced_outside : (p : ℕ) → 512 * node_count s ≤ p → get_or (with_table (with_table t y Ty) x Tx) p 0 ≡ get_or t p 0
  replaced_outside p h =
      let bx : x ≤ node_count s = nx.high in
      let lx : 1 ≤ x = nx.low in
      let ly : 1 ≤ y = ny.low in
      let bY : y ≤ node_count s = ny.high in
      stored_outside (with_table t y Ty) x Tx size_x fits_x p (inr (omega arith)) ∙ stored_outside t y Ty size_y (fits y ny) p (inr (omega arith))

  -- a table but x's is as storing y's left it
  other : (z : ℕ) → IsNode s z → z ≢ x → table_of (with_table (with_table t y Ty) x Tx) z ≡ table_of (with_table t y Ty) z
  other z n e = stored_other (with_table t y Ty) x Tx size_x fits_x z nx.low n.low e (omega (arith, fits z n, length_y))

  pub replaced_first : table_of (with_table (with_table t y Ty) x Tx) x ≡ Tx
  replaced_first = stored_same (with_table t y Ty) x Tx size_x fits_x

  pub replaced_second : y ≢ x → table_of (with_table (with_table t y Ty) x Tx) y ≡ Ty
  replaced_second e = other y ny e ∙ stored_same t y Ty size_y (fits y ny)

  -- what holds of the two, and of each table as it was, holds of each table after
  pub replaced_table : (P : ℕ → List ℕ → Type 0) → P x Tx → P y Ty → ((z : ℕ) → IsNode s z → P z (table_of t z)) → (z : ℕ) → IsNode s z
      → P z (table_of (with_table (with_table t y Ty) x Tx) z)
  replaced_table P px py pz z n = go (ℕ_discrete z x) (ℕ_discrete z y)
    where
      go : Dec (z ≡ x) → Dec (z ≡ y) → P z (table_of (with_table (with_table t y Ty) x Tx) z)
      go (yes e) q =
          subst (λ (z : ℕ). P z (table_of (with_table (with_table t y Ty) x Tx) z)) (sym e)
          (rw replaced_first px)
      go (no e) (yes q) =
          subst (λ (z : ℕ). P z (table_of (with_table (with_table t y Ty) x Tx) z)) (sym q) (rw (replaced_second (λ w. e (q ∙ w))) py)
      go (no e) (no q) = rw (other z n e, stored_other t y Ty size_y (fits y ny) z ny.low n.low q (fits z n)) (pz z n)

-- ---- the step

module _ (s t : List ℕ) (x y : ℕ) (r : Node) (Tx Ty : List ℕ) (S : Sound s t) (nx : IsNode s x) (ny : IsNode s y)
    (same_id : r.id ≡ id_of s x) (l : Later s (with_node s x r)) (ox : OwnTable (with_node s x r) x Tx)
    (oy : OwnTable (with_node s x r) y Ty) (ok : RecordOk s x r) (counted : CountsOk s x r) where
  s₁ : List ℕ
  s₁ = with_node s x r

  t₁ : List ℕ
  t₁ = with_table (with_table t y Ty) x Tx

  fits_node : 8 * x + 8 ≤ length s
  fits_node = node_fits s t S x nx

  a : Agree x s s₁
  unfolding s₁
  a = agree_node s x fits_node r same_id

  count : node_count s₁ ≡ node_count s
  count = agree_count x s s₁ a nx.low

  back : (z : ℕ) → IsNode s₁ z → IsNode s z
  back = node_among s₁ s (omega (arith, count))

  on : (z : ℕ) → IsNode s z → IsNode s₁ z
  on = node_among s s₁ (omega (arith, count))

  status : (z : ℕ) → IsNode s z → Dec (z ≡ x) → StatusOk s₁ z
  unfolding s₁
  status z n (yes e) = subst (StatusOk s₁) (sym e) (status_later s s₁ l x nx (on x nx) (node_stored s x r fits_node) ok)
  status z n (no e) = status_later s s₁ l z n (on z n) (agree_kept x s s₁ a z e) (S.statuses z n)

  counts : (z : ℕ) → IsNode s z → Dec (z ≡ x) → CountsOk s₁ z (node_of s₁ z)
  unfolding s₁
  counts z n (yes e) =
      subst (λ (z : ℕ). CountsOk s₁ z (node_of s₁ z)) (sym e) (counts_later s s₁ l x nx (on x nx) (node_stored s x r fits_node) ok counted)
  counts z n (no e) = counts_later s s₁ l z n (on z n) (agree_kept x s s₁ a z e) (S.statuses z n) (S.counts z n)

  valid : (z : ℕ) → IsNode s z → valid_id (base s₁) (digits s₁) (id_of s₁ z) ≡ true
  unfolding s₁
  valid z n =
      subst₃ (λ (b d id : ℕ). valid_id b d id ≡ true) (sym l.base) (sym l.digits) (sym (agree_id x s s₁ a z)) (S.ids z n)

  long : Long s₁ t₁
  unfolding s₁ t₁
  long = record {
    state = omega (arith, node_length s x r fits_node, S.long.state);
    tables = omega (arith, replaced_length s t S x y nx ny Tx Ty ox.long oy.long, S.long.tables);
  }

  pub replaced_ok : Sound (with_node s x r) (with_table (with_table t y Ty) x Tx)
  unfolding s₁ t₁
  replaced_ok = record {
    long = long;
    settings = subst₃ InRange (sym l.base) (sym l.digits) (sym l.depth) S.settings;
    some = omega (arith, count, S.some);
    few = omega (arith, count, S.few);
    ids = λ z n. valid z (back z n);
    new = λ z w n h g e. S.new z w (back z n) h g (sym (agree_id x s s₁ a w) ∙ e ∙ agree_id x s s₁ a z);
    tables =
        λ z n.
        replaced_table s t S x y nx ny Tx Ty ox.long oy.long (TableOk s₁) ox.rules oy.rules
        (λ z n. table_later s s₁ l z (table_of t z) n (on z n) (S.tables z n)) z (back z n);
    statuses = λ z n. status z (back z n) (ℕ_discrete z x);
    counts = λ z n. counts z (back z n) (ℕ_discrete z x);
    head = λ p h g. a.words p (inl (omega (arith, nx.low))) ∙ S.head p h g;
    rest = λ p h g. a.words p (inr (omega (arith, count, nx.high, h))) ∙ S.rest p (omega (arith, count, h)) g;
    tables_rest =
        λ p h g.
        replaced_outside s t S x y nx ny Tx Ty ox.long oy.long p (omega (arith, count, h)) ∙ S.tables_rest p (omega (arith, count, h)) g;
  }
