-- Filling writes within the fixed length, and on memories alike in the fixed lengths it lists the same. Assumes nothing.
use Prim.Native.Nat.{ℕ, suc, ◌+◌, ◌*◌, ◌/◌, ◌≤◌, ◌<◌}
use mathlib.Core.Path.{◌≡◌, refl, sym, ap, ap₂, subst, ◌∙◌}
use mathlib.Core.List.{List, [], ◌∷◌, ◌++◌}
use native.Mathlib.Nat.{add-zero}
use native.Mathlib.Decide.{dec_lt}
use native.Mathlib.Omega.{arith}
use lib.ListN.{length, get_or, take}
use Rattle.model.specs.Loops.{first_below, each_below, node}
use Rattle.model.specs.Memory.{state_length, tables_length, base, digits, depth, node_count, table_start, table_of, with_table}
use Rattle.model.specs.Tables.{append}
use Rattle.model.specs.Nodes.{qualifies}
use Rattle.model.specs.Fill.{Filling, is_absent, lowest_absent, short_by, added, fill_once, fill_entry, fill_level, fill_node, filling, with_record, with_records}
use Rattle.model.proofs.Loops.{first_same, each_leads}
use Rattle.model.proofs.Memory.{table_length, stored_length}
use Rattle.model.proofs.Tables.{append_length}
use Rattle.model.proofs.Status.{IsNode}
use Rattle.model.proofs.Sound.{Sound}
use Rattle.model.proofs.Within.{Within, within_same, within_each, within_table}
use Rattle.model.proofs.Alike as same
use Rattle.model.proofs.Alike.{LongAlike, base_same, digits_same, depth_same, id_same, table_same}
use Rattle.model.proofs.AlikeLooking.{nodes_same, how_many_same}
use Rattle.model.proofs.Filling.{Steady, EntryOf, unfilled, fills_once, once_short}
use Rattle.model.proofs.FillingRecords.{steady_keep, more_length, more_before, more_here}

-- ---- it writes to the tables of nodes

-- the list has n records, each of a node's table
record Owned (s : List ℕ) (n : ℕ) (list : List ℕ) : Type 0 where
  long : length list ≡ 4 * n
  owner : (r : ℕ) → r < n → IsNode s (get_or list (4 * r) 0)

owned_more : (s : List ℕ) (n : ℕ) (list : List ℕ) → Owned s n list → (x i j y : ℕ) → IsNode s x → Owned s (suc n) (list ++ (x ∷ i ∷ j ∷ y ∷ []))
owned_more s n list o x i j y nx = record {
  long = more_length list n o.long x i j y;
  owner = λ r h. go r h (dec_lt r n);
}
  where
    go : (r : ℕ) → r < suc n → Dec (r < n) → IsNode s (get_or (list ++ (x ∷ i ∷ j ∷ y ∷ [])) (4 * r) 0)
    go r h (yes l) = subst (IsNode s) (sym (more_before list n o.long x i j y (4 * r) (omega arith))) (o.owner r l)
    go r h (no g) = subst (IsNode s) (sym (more_here list n o.long x i j y 0 (4 * r) (omega arith))) nx

pub filling_within : (s t : List ℕ) → Steady s t → Within tables_length (with_records (depth s) (filling s t).list)
unfolding added with_records with_record
filling_within s t w =
    let c : (n : ℕ) × Owned s n (filling s t).list =
    steady_keep s (λ f. (n : ℕ) × Owned s n f.list)
    (λ x i j f e w short c. (suc c.0, owned_more s c.0 f.list c.1 x i j _ e.node))
    t w (0, record { long = refl; owner = λ r h. absurd (omega arith) }) in
    let list : List ℕ = (filling s t).list in
    within_each tables_length (length list / 4) (with_record (depth s) list) (λ r l.
    let n : IsNode s (get_or list (4 * r) 0) = c.1.owner r (omega (arith, l, c.1.long)) in
    within_table (get_or list (4 * r) 0) n.low (omega (arith, n.high, w.sound.few))
    (λ T. append (depth s) T (get_or list (4 * r + 1) 0) (get_or list (4 * r + 2) 0) (get_or list (4 * r + 3) 0))
    (λ T e. append_length (depth s) T (get_or list (4 * r + 1) 0) (get_or list (4 * r + 2) 0) (get_or list (4 * r + 3) 0) ∙ e))

-- ---- two runs side by side

each_both {ℓ κ} : {A : Type ℓ} (P : ℕ → A → A → Type κ) (n n' : ℕ) (step step' : ℕ → A → A) → n' ≡ n → (a a' : A) → P 0 a a'
    → ((k : ℕ) (b b' : A) → k < n → P k b b' → P (suc k) (step k b) (step' k b')) → P n (each_below n step a) (each_below n' step' a')
unfolding each_below
each_both P n n' step step' e a a' p h =
    subst (λ (m : ℕ). P n (each_below n step a) (each_below m step' a')) (sym e)
    (each_leads (λ k b. P k b (each_below k step' a')) n step a p (λ k b. h k b (each_below k step' a')))

-- the same node comes next, and the entry is short by as many
module _ (s t s' t' : List ℕ) (L : LongAlike s t s' t') (S : Sound s t) (x i j : ℕ) (n : IsNode s x) where
  abbrev a : take state_length s' ≡ take state_length s
  a = L.alike.state

  few : (y : ℕ) → y ≤ node_count s → y ≤ 64
  few y h = omega (arith, S.few)

  count : node_count s' ≡ node_count s
  count = same.count_same s s' a

  qualifies_same : (y : ℕ) → y ≤ node_count s → qualifies s' x i j y ≡ qualifies s x i j y
  qualifies_same y h = cc (id_same s s' a x (few x n.high), id_same s s' a y (few y h))

  lowest_same : lowest_absent s' t' x i j ≡ lowest_absent s t x i j
  unfolding lowest_absent is_absent
  lowest_same =
      ap (λ (k : ℕ). k + 1)
      (nodes_same first_below first_same (node_count s) (node_count s') count (is_absent s t x i j) (is_absent s' t' x i j)
      (λ y l h. cc (qualifies_same y h, depth_same s s' a, table_same s t s' t' L x n.low (few x n.high))))

  short_same : short_by s' t' x i j ≡ short_by s t x i j
  unfolding short_by
  short_same =
      cc (depth_same s s' a, table_same s t s' t' L x n.low (few x n.high), how_many_same s t s' t' L S x n.low n.high i j)

module _ (s s' : List ℕ) (a : take state_length s' ≡ take state_length s) where
  -- both have got so far
  record Both (f f' : Filling) : Type 0 where
    steady : Steady s f.tables
    alike : LongAlike s f.tables s' f'.tables
    list : f'.list ≡ f.list

  once_both : (x i j k : ℕ) (f f' : Filling) → EntryOf s x i j → 1 ≤ short_by s f.tables x i j → Both f f'
      → Both (fill_once s x i j k f) (fill_once s' x i j k f')
  unfolding fill_once added
  once_both x i j k f f' e short b = record {
    steady = after;
    alike = record {
      alike = record {
        state = a;
        tables = ap (λ (t : List ℕ). take tables_length t) added_same ∙ within_same tables_length put
            (within_table x e.node.low high (λ T. append (depth s) T i j y) (λ T q. append_length (depth s) T i j y ∙ q))
            f.tables f'.tables b.alike.long.tables b.alike.long'.tables b.alike.alike.tables;
      };
      long = after.sound.long;
      long' = record {
        state = b.alike.long'.state;
        tables = omega (
          arith,
          ap length added_same,
          stored_length f'.tables x (append (depth s) (table_of f'.tables x) i j y)
              (append_length (depth s) (table_of f'.tables x) i j y ∙ table_length f'.tables x fits) fits,
          b.alike.long'.tables,
        );
      };
    };
    list = ap₂ (λ (l : List ℕ) (y : ℕ). l ++ (x ∷ i ∷ j ∷ y ∷ [])) b.list lowest;
  }
    where
      y : ℕ
      y = lowest_absent s f.tables x i j

      put : List ℕ → List ℕ
      put t = with_table t x (append (depth s) (table_of t x) i j y)

      after : Steady s (fill_once s x i j k f).tables
      after = (fills_once s f b.steady x i j e short k).steady

      high : x ≤ 64
      high = omega (arith, e.node.high, b.steady.sound.few)

      fits : table_start x + 512 ≤ length f'.tables
      fits = omega (arith, e.node.low, high, b.alike.long'.tables)

      lowest : lowest_absent s' f'.tables x i j ≡ y
      lowest = lowest_same s f.tables s' f'.tables b.alike b.steady.sound x i j e.node

      added_same : (fill_once s' x i j k f').tables ≡ put f'.tables
      added_same = ap₂ (λ (K y : ℕ). with_table f'.tables x (append K (table_of f'.tables x) i j y)) (depth_same s s' a) lowest

  entry_both : (x i j : ℕ) (f f' : Filling) → EntryOf s x i j → Both f f' → Both (fill_entry s x i j f) (fill_entry s' x i j f')
  unfolding fill_entry
  entry_both x i j f f' e b =
      (each_both (λ k g g'. Both g g' × (short_by s g.tables x i j + k ≡ short_by s f.tables x i j))
      (short_by s f.tables x i j) (short_by s' f'.tables x i j) (fill_once s x i j) (fill_once s' x i j) (short_same s f.tables s' f'.tables b.alike b.steady.sound x i j e.node) f f' (b, add-zero _)
      (λ k g g' l q.
      let short : 1 ≤ short_by s g.tables x i j = omega (arith, q.1, l) in
      (once_both x i j k g g' e short q.0, omega (arith, q.1, once_short s g q.0.steady x i j e short k)))).0

  every_both : (f f' : Filling) → Both f f' → Both (each_below (node_count s) (node (fill_node s)) f) (each_below (node_count s') (node (fill_node s')) f')
  unfolding fill_node fill_level
  every_both f f' b =
      each_both (λ k. Both) (node_count s) (node_count s') (node (fill_node s)) (node (fill_node s')) (same.count_same s s' a) f f' b (λ y f f' hy b.
      each_both (λ k. Both) (digits s) (digits s') (fill_level s (y + 1)) (fill_level s' (y + 1)) (digits_same s s' a) f f' b (λ i f f' hi b.
      each_both (λ k. Both) (base s) (base s') (fill_entry s (y + 1) i) (fill_entry s' (y + 1) i) (base_same s s' a) f f' b (λ j f f' hj.
      entry_both (y + 1) i j f f' (record { node = record { low = omega arith; high = omega (arith, hy) }; level = hi; digit = hj }))))

pub filling_same : (s t s' t' : List ℕ) → LongAlike s t s' t' → Steady s t → (filling s' t').list ≡ (filling s t).list
unfolding filling
filling_same s t s' t' L w =
    (every_both s s' L.alike.state (unfilled t) (unfilled t') (record { steady = w; alike = L; list = refl })).list
