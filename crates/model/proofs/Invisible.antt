-- A node that copies or waits is invisible to the others: a delivery between two of them is refused or done alike with it and without it. Assumes nothing.
use Prim.Native.Nat.{ℕ, ◌+◌, ◌*◌, ◌≤◌, ◌<◌}
use mathlib.Core.Path.{◌≡◌, sym, ap, ap₂, subst, ◌∙◌}
use mathlib.Core.Logic.{◌≢◌, inl, inr, ⊎_elim}
use mathlib.Core.Bool.{true, false, ◌&&◌}
use mathlib.Core.List.{List}
use native.Mathlib.Omega.{arith}
use lib.ListN.{length, get_or}
use Rattle.model.specs.Memory.{node_count, node_of, is_in_system, is_attached, with_node, table_start, table_of, with_table}
use Rattle.model.specs.Nodes.{is_node}
use Rattle.model.specs.Join.{Delivery, delivery, delivered}
use Rattle.model.specs.Refusals.{are_nodes, deliver_refusal}
use Rattle.model.proofs.Bools.{same_test, and_left, and_right}
use Rattle.model.proofs.Memory.{node_same, node_outside, node_length, stored_length, node_both, table_both}
use Rattle.model.proofs.Splice.{part_same}
use Rattle.model.proofs.Status.{IsNode, node_among, is_node_lem, is_node_of, attached_same, in_system_same}
use Rattle.model.proofs.Sound.{Sound, node_fits, table_fits}
use Rattle.model.proofs.Sender.{CanDeliver}
use Rattle.model.proofs.Taken.{state_skipped}
use Rattle.model.proofs.Alike.{AlikeTo}
use Rattle.model.proofs.AlikeDelivery.{delivery_alike}
use Rattle.model.proofs.AlikeRefusals.{deliver_judged}
use Rattle.model.proofs.Undoing.{Beside}
use Rattle.model.proofs.TablesOnlyGrow.{tables_long}

module _ (s t s' t' : List ℕ) (S : Sound s t) (S' : Sound s' t') (b : Beside s t s' t') where
  word : (u k : ℕ) → u ≤ node_count s → k < 8 → 8 * u + k ≢ 3 → get_or s' (8 * u + k) 0 ≡ get_or s (8 * u + k) 0
  word u k h l ne = b.words (8 * u + k) ne (inl (omega arith))

  record_alike : (y : ℕ) → IsNode s y → node_of s' y ≡ node_of s y
  record_alike y n = node_same s s' y (λ k h. word y k n.high h (omega (arith, n.low)))

  table_alike : (y : ℕ) → IsNode s y → table_of t' y ≡ table_of t y
  unfolding table_of
  table_alike y n =
      part_same (table_start y) 512 t' t (omega (arith, table_fits s t S y n, b.long.1)) (table_fits s t S y n)
      (λ k h. b.bytes (table_start y + k) (inl (omega (arith, n.high, n.low))))

  to : AlikeTo (node_count s) s s'
  to = record {
    digits = b.words 1 (omega arith) (inl (omega arith));
    depth = b.words 2 (omega arith) (inl (omega arith));
    ids = λ u h. b.words (8 * u) (omega arith) (inl (omega arith));
    statuses = λ u h. word u 1 h (omega arith) (omega arith);
    levels = λ u h. word u 2 h (omega arith) (omega arith);
  }

  -- the other nodes are the same
  with_it : (y : ℕ) → IsNode s y → IsNode s' y
  with_it = node_among s s' (omega (arith, b.count))

  is_node_alike : (y : ℕ) → y ≢ node_count s + 1 → is_node s' y ≡ is_node s y
  is_node_alike y ne =
      same_test (is_node s' y) (is_node s y)
      (λ e. let n = is_node_lem s' y e in is_node_of s y (record { low = n.low; high = omega (arith, n.high, b.count, ne) }))
      (λ e. let n = is_node_lem s y e in is_node_of s' y (with_it y n))

  module _ (y z : ℕ) (other : y ≢ node_count s + 1) (another : z ≢ node_count s + 1) where
    pub refused_alike : deliver_refusal (record { state = s'; tables = t' }) y z ≡ deliver_refusal (record { state = s; tables = t }) y z
    unfolding deliver_refusal
    refused_alike =
        state_skipped (record { state = s'; tables = t' }) _ S'
        ∙ deliver_judged s s' y z (ap₂ ◌&&◌ (is_node_alike y other) (is_node_alike z another)) there
        ∙ sym (state_skipped (record { state = s; tables = t }) _ S)
      where
        there : are_nodes s y z ≡ true → (node_of s' y ≡ node_of s y) × (is_in_system s' z ≡ is_in_system s z)
        there e = (
          record_alike y (is_node_lem s y (and_left (is_node s y) (is_node s z) e)),
          in_system_same s s' z (record_alike z (is_node_lem s z (and_right (is_node s y) (is_node s z) e))),
        )

  -- ---- a delivery between two of them

  module _ (y z : ℕ) (c : CanDeliver s y z) where
    ny : IsNode s y
    ny = c.sender

    nz : IsNode s z
    nz = c.receiver

    ny' : IsNode s' y
    ny' = with_it y ny

    nz' : IsNode s' z
    nz' = with_it z nz

    pub done_alike : delivery s' t' y z ≡ delivery s t y z
    done_alike =
        delivery_alike (node_count s) s t s' t' to S (omega arith) y z ny nz (node_fits s' t' S' y ny') (record_alike y ny) (table_alike y ny)
        (table_alike z nz)

    abbrev d : Delivery
    d = delivery s t y z

    fits : 8 * y + 8 ≤ length s
    fits = node_fits s t S y ny

    fits' : 8 * y + 8 ≤ length s'
    fits' = node_fits s' t' S' y ny'

    -- the nodes are as many as before
    same_count : (s₁ : List ℕ) → 8 * y + 8 ≤ length s₁ → node_count (with_node s₁ y d.sender) ≡ node_count s₁
    same_count s₁ f = node_outside s₁ y d.sender f 3 (inl (omega (arith, ny.low)))

    count : node_count (with_node s y d.sender) ≡ node_count s
    count = same_count s fits

    -- and the one that they do not see goes on asking
    away : (x : ℕ) → x ≡ node_count s + 1 → is_attached (with_node s' y d.sender) x ≡ false
    away x e =
        attached_same s' (with_node s' y d.sender) x
        (node_same s' (with_node s' y d.sender) x (λ k h. node_outside s' y d.sender fits' (8 * x + k) (inr (omega (arith, ny.high)))))
        ∙ subst (λ (x : ℕ). is_attached s' x ≡ false) (sym e) b.away

    -- the table of z, and then that of y, stored in both
    room : (t₁ : List ℕ) → table_start y + 512 ≤ length t₁ → table_start z + 512 ≤ length t₁ → table_start y + 512 ≤ length (with_table t₁ z d.receiver_table)
    room t₁ f g = omega (arith, f, stored_length t₁ z d.receiver_table (tables_long s t S y z c).1 g)

    stored_z : table_start y + 512 ≤ length (with_table t z d.receiver_table)
    stored_z = room t (table_fits s t S y ny) (table_fits s t S z nz)

    stored_z' : table_start y + 512 ≤ length (with_table t' z d.receiver_table)
    stored_z' = room t' (table_fits s' t' S' y ny') (table_fits s' t' S' z nz')

    same_byte : (p : ℕ) → get_or t' p 0 ≡ get_or t p 0
        → get_or (with_table (with_table t' z d.receiver_table) y d.sender_table) p 0
        ≡ get_or (with_table (with_table t z d.receiver_table) y d.sender_table) p 0
    same_byte p e =
        table_both (with_table t z d.receiver_table) (with_table t' z d.receiver_table) y d.sender_table (tables_long s t S y z c).0 stored_z stored_z' p
        (table_both t t' z d.receiver_table (tables_long s t S y z c).1 (table_fits s t S z nz) (table_fits s' t' S' z nz') p e)

    long : (t₁ : List ℕ) → table_start z + 512 ≤ length t₁ → table_start y + 512 ≤ length (with_table t₁ z d.receiver_table)
        → length (with_table (with_table t₁ z d.receiver_table) y d.sender_table) ≡ length t₁
    long t₁ f g =
        stored_length (with_table t₁ z d.receiver_table) y d.sender_table (tables_long s t S y z c).0 g
        ∙ stored_length t₁ z d.receiver_table (tables_long s t S y z c).1 f

    same_beside : Beside (delivered s t y z d).state (delivered s t y z d).tables (delivered s' t' y z d).state (delivered s' t' y z d).tables
    unfolding delivered
    same_beside = record {
      count = same_count s' fits' ∙ b.count ∙ ap (λ (n : ℕ). n + 1) (sym count);
      away = away (node_count (with_node s y d.sender) + 1) (ap (λ (n : ℕ). n + 1) count);
      words = λ p ne h. node_both s s' y d.sender fits fits' p (b.words p ne (⊎_elim (λ l. inl (omega (arith, count))) (λ g. inr (omega (arith, count))) h));
      bytes = λ p h. same_byte p (b.bytes p (⊎_elim (λ l. inl (omega (arith, count))) (λ g. inr (omega (arith, count))) h));
      long = (
        node_length s' y d.sender fits' ∙ b.long.0 ∙ sym (node_length s y d.sender fits),
        long t' (table_fits s' t' S' z nz') stored_z' ∙ b.long.1 ∙ sym (long t (table_fits s t S z nz) stored_z),
      );
    }

    -- it leaves that node beside the others
    pub done_beside : Beside (delivered s t y z (delivery s t y z)).state (delivered s t y z (delivery s t y z)).tables
        (delivered s' t' y z (delivery s' t' y z)).state (delivered s' t' y z (delivery s' t' y z)).tables
    done_beside =
        subst
        (λ (d₁ : Delivery).
        Beside (delivered s t y z d).state (delivered s t y z d).tables (delivered s' t' y z d₁).state (delivered s' t' y z d₁).tables)
        (sym done_alike) same_beside
