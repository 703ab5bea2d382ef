-- A beginning, deliveries of its node that do not attach it, and its withdrawal give back the memory from before. Assumes nothing.
use Prim.Native.Nat.{ℕ, ◌+◌, ◌*◌, ◌≤◌, ◌<◌}
use mathlib.Core.Path.{◌≡◌, sym, ap, subst, ◌∙◌}
use mathlib.Core.Logic.{◌≢◌, ◌⊎◌, inl, inr, ⊎_elim}
use mathlib.Core.Bool.{false}
use mathlib.Core.List.{List}
use native.Mathlib.Decide.{ℕ_discrete, dec_lt}
use native.Mathlib.Omega.{arith}
use lib.ListN.{length, get_or}
use lib.Seq.{ext_get_or}
use Rattle.model.specs.Memory.{node_count, status_of, is_attached, table_start, table_of, with_node, with_table}
use Rattle.model.specs.Join.{Delivery, kind_attached, begun, withdrawn, delivery, delivered}
use Rattle.model.proofs.Bools.{not_both}
use Rattle.model.proofs.Memory.{same_status, node_length, node_outside, node_stored, table_length, stored_length, stored_outside, table_back}
use Rattle.model.proofs.Status.{attached_notifying, copying_away}
use Rattle.model.proofs.Sound.{Sound, node_fits, table_fits}
use Rattle.model.proofs.Learning.{learn_table_grows}
use Rattle.model.proofs.BeginningKeepsSound.{CanBegin, begun_count, begun_new, begun_word, begun_byte, begun_long}
use Rattle.model.proofs.Sender.{CanDeliver}
use Rattle.model.proofs.DeliveryDid.{asking_away, AsksOn, Did, did_ask, did_attach, did_notify, delivery_did}
use Rattle.model.proofs.TablesOnlyGrow.{delivered_count}
use Rattle.model.proofs.Withdrawing.{withdrawn_long, withdrawn_count, record_zero, table_zero, word_kept, byte_kept}

-- s' and t' are s and t with one node more, the highest-numbered, which copies or waits
pub record Beside (s t s' t' : List ℕ) : Type 0 where
  pub count : node_count s' ≡ node_count s + 1
  pub away : is_attached s' (node_count s + 1) ≡ false
  pub words : (p : ℕ) → p ≢ 3 → (p < 8 * (node_count s + 1)) ⊎ (8 * (node_count s + 1) + 8 ≤ p) → get_or s' p 0 ≡ get_or s p 0
  pub bytes : (p : ℕ) → (p < 512 * node_count s) ⊎ (512 * node_count s + 512 ≤ p) → get_or t' p 0 ≡ get_or t p 0
  pub long : (length s' ≡ length s) × (length t' ≡ length t)

pub begun_beside : (s t : List ℕ) (id gateway : ℕ) → Sound s t → CanBegin s id gateway
    → Beside s t (begun s t id gateway).state (begun s t id gateway).tables
begun_beside s t id gateway S c = record {
  count = begun_count s t id gateway S c;
  away = copying_away (begun s t id gateway).state (node_count s + 1) (same_status (begun_new s t id gateway S c));
  words = begun_word s t id gateway S c;
  bytes = begun_byte s t id gateway S c;
  long = begun_long s t id gateway S c;
}

-- and any memory from which a node may be withdrawn is beside what that leaves
pub withdrawn_beside : (s t : List ℕ) → Sound s t → is_attached s (node_count s) ≡ false → Beside (withdrawn s t).state (withdrawn s t).tables s t
withdrawn_beside s t S away = record {
  count = count;
  away = subst (λ (x : ℕ). is_attached s x ≡ false) count away;
  words = λ p ne h. sym (word_kept s t S p ne (⊎_elim (λ l. inl (omega (arith, count))) (λ g. inr (omega (arith, count))) h));
  bytes = λ p h. sym (byte_kept s t S p (⊎_elim (λ l. inl (omega (arith, count))) (λ g. inr (omega (arith, count))) h));
  long = (sym (withdrawn_long s t S).0, sym (withdrawn_long s t S).1);
}
  where
    count : node_count s ≡ node_count (withdrawn s t).state + 1
    count = omega (arith, withdrawn_count s t S, S.some)

-- ---- a delivery of that node which does not attach it

module _ (s t s' t' : List ℕ) (b : Beside s t s' t') (S : Sound s' t') (y : ℕ) (c : CanDeliver s' (node_count s + 1) y) where
  abbrev x : ℕ
  x = node_count s + 1

  abbrev d : Delivery
  d = delivery s' t' x y

  fits : 8 * (node_count s + 1) + 8 ≤ length s'
  fits = node_fits s' t' S x c.sender

  fits_table : table_start (node_count s + 1) + 512 ≤ length t'
  fits_table = table_fits s' t' S x c.sender

  module _ (w : AsksOn s' t' (node_count s + 1) y (delivery s' t' (node_count s + 1) y)) where
    -- its own table alone is new
    own : with_table (with_table t' y d.receiver_table) x d.sender_table ≡ with_table t' x d.sender_table
    own = ap (λ (t : List ℕ). with_table t x d.sender_table) (ap (with_table t' y) w.theirs ∙ table_back t' y)

    size : length d.sender_table ≡ 512
    size = ap length w.own ∙ (learn_table_grows s' x (table_of t' y) (table_of t' x)).long ∙ table_length t' x fits_table

    stored : status_of (with_node s' x d.sender) x ≡ w.status
    stored = same_status (node_stored s' x d.sender fits ∙ w.sender)

    outside : (p : ℕ) → (p < 512 * node_count s) ⊎ (512 * node_count s + 512 ≤ p) → (p < table_start x) ⊎ (table_start x + 512 ≤ p)
    outside p (inl l) = inl (omega arith)
    outside p (inr g) = inr (omega arith)

    asks_beside : Beside s t (delivered s' t' x y d).state (delivered s' t' x y d).tables
    unfolding delivered
    asks_beside = record {
      count = delivered_count s' t' S x y c ∙ b.count;
      away = asking_away w.how (with_node s' x d.sender) stored;
      words = λ p ne h. node_outside s' x d.sender fits p h ∙ b.words p ne h;
      bytes = λ p h.
          ap (λ (t : List ℕ). get_or t p 0) own
          ∙ stored_outside t' x d.sender_table size fits_table p (outside p h)
          ∙ b.bytes p h;
      long = (
        node_length s' x d.sender fits ∙ b.long.0,
        ap length own ∙ stored_length t' x d.sender_table size fits_table ∙ b.long.1,
      );
    }

  pub delivered_beside : (delivery s' t' (node_count s + 1) y).kind ≢ kind_attached
      → Beside s t (delivered s' t' (node_count s + 1) y (delivery s' t' (node_count s + 1) y)).state
      (delivered s' t' (node_count s + 1) y (delivery s' t' (node_count s + 1) y)).tables
  delivered_beside ne = go (delivery_did s' t' S x y c)
    where
      go : Did s' t' x y d → Beside s t (delivered s' t' x y d).state (delivered s' t' x y d).tables
      go (did_ask w) = asks_beside w
      go (did_attach w) = absurd (ne w.kind)
      go (did_notify w) = absurd (not_both (is_attached s' x) (attached_notifying s' x w.status) b.away)

-- ---- its withdrawal

module _ (s t s' t' : List ℕ) (S : Sound s t) (b : Beside s t s' t') (S' : Sound s' t') where
  word_back : (p : ℕ) → Dec (p ≡ 3) → Dec (p < 8 * node_count s') → Dec (p < 8 * node_count s' + 8) → get_or (withdrawn s' t').state p 0 ≡ get_or s p 0
  word_back p (yes e) l h =
      ap (λ (p : ℕ). get_or (withdrawn s' t').state p 0) e
      ∙ withdrawn_count s' t' S'
      ∙ omega (arith, b.count)
      ∙ ap (λ (p : ℕ). get_or s p 0) (sym e)
  word_back p (no e) (yes l) h = word_kept s' t' S' p e (inl l) ∙ b.words p e (inl (omega (arith, b.count)))
  word_back p (no e) (no l) (yes h) =
      record_zero s' t' S' p (omega arith) h ∙ sym (S.rest p (omega (arith, b.count)) (omega (arith, b.count, S'.few)))
  word_back p (no e) (no l) (no h) =
      word_kept s' t' S' p e (inr (omega arith)) ∙ b.words p e (inr (omega (arith, b.count)))

  byte_back : (p : ℕ) → Dec (p < 512 * node_count s) → Dec (p < 512 * node_count s + 512) → get_or (withdrawn s' t').tables p 0 ≡ get_or t p 0
  byte_back p (yes l) h = byte_kept s' t' S' p (inl (omega (arith, b.count))) ∙ b.bytes p (inl l)
  byte_back p (no l) (yes h) =
      table_zero s' t' S' p (omega (arith, b.count)) (omega (arith, b.count))
      ∙ sym (S.tables_rest p (omega arith) (omega (arith, b.count, S'.few)))
  byte_back p (no l) (no h) = byte_kept s' t' S' p (inr (omega (arith, b.count))) ∙ b.bytes p (inr (omega arith))

  -- every word and byte is as it was before the beginning
  pub undone : withdrawn s' t' ≡ record { state = s; tables = t }
  undone = λ i. record { state = states i; tables = tables i }
    where
      states : (withdrawn s' t').state ≡ s
      states =
          ext_get_or 0 (withdrawn s' t').state s ((withdrawn_long s' t' S').0 ∙ b.long.0)
          (λ p h. word_back p (ℕ_discrete p 3) (dec_lt p (8 * node_count s')) (dec_lt p (8 * node_count s' + 8)))

      tables : (withdrawn s' t').tables ≡ t
      tables =
          ext_get_or 0 (withdrawn s' t').tables t ((withdrawn_long s' t' S').1 ∙ b.long.1)
          (λ p h. byte_back p (dec_lt p (512 * node_count s)) (dec_lt p (512 * node_count s + 512)))
