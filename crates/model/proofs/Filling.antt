-- Filling: each addition goes to an entry that is short, so there is a node to add, the state stays sound, tables only gain nodes, and in the end every entry
-- holds what it must. Assumes nothing.
use Prim.Native.Nat.{ℕ, ◌+◌, ◌-◌, ◌≤◌, ◌<◌, min}
use mathlib.Core.Path.{◌≡◌, refl, sym, ap, subst, ◌∙◌}
use mathlib.Core.Logic.{inr, ⊎_elim}
use mathlib.Core.Bool.{Bool, true, false, not, ◌&&◌}
use mathlib.Core.List.{List, [], ◌∷◌}
use native.Mathlib.Nat.{le_refl, le_trans, add-zero}
use native.Mathlib.Decide.{ℕ_discrete, le_ind}
use native.Mathlib.Omega.{arith}
use lib.Dec.{eqb}
use lib.ListN.{length, length-append}
use borrow.Author.Tests.{eqb-true, not-true, not-false}
use Rattle.model.specs.Loops.{each_below, node}
use Rattle.model.specs.Memory.{base, digits, depth, node_count, is_in_system, is_attached, table_start, table_of, with_table}
use Rattle.model.specs.Tables.{entry_size, holds, append}
use Rattle.model.specs.Nodes.{any_node, qualifies}
use Rattle.model.specs.Consistency.{how_many, entry_whole}
use Rattle.model.specs.Fill.{Filling, is_absent, lowest_absent, short_by, added, fill_once, fill_entry, fill_level, fill_node, filling}
use Rattle.model.proofs.Bools.{true_or_false, and_left, and_right, or_intro_right}
use Rattle.model.proofs.Loops.{first_some, first_holds, each_keeps, each_leads, each_does}
use Rattle.model.proofs.Nodes.{no_node_at}
use Rattle.model.proofs.Memory.{table_length, stored_length, stored_outside, stored_same, stored_other}
use Rattle.model.proofs.Tables.{Grows, grows_refl, grows_trans, append_length, append_size, append_grows, grown_size}
use Rattle.model.proofs.Status.{IsNode, attached_in_system}
use Rattle.model.proofs.Sound.{TableOk, Sound, table_fits}
use Rattle.model.proofs.Later.{later_refl}
use Rattle.model.proofs.LearningKeepsRules.{Addable, append_ok}
use Rattle.model.proofs.SoundEntries.{entry_fits, size_is_length}
use Rattle.model.proofs.Consistency.{Whole, entry_fewer}
use Rattle.model.proofs.NoRoom.{gapless, held_no_room, entry_whole_lem}
use Rattle.model.proofs.TablesOnlyGrow.{Onward, later_onward}

-- a sound state in which every node is in system
pub record Steady (s t : List ℕ) : Type 0 where
  pub sound : Sound s t
  pub settled : (x : ℕ) → IsNode s x → is_in_system s x ≡ true

-- (i, j) is an entry of node x
pub record EntryOf (s : List ℕ) (x i j : ℕ) : Type 0 where
  pub node : IsNode s x
  pub level : i < digits s
  pub digit : j < base s

-- g comes of f by additions
pub record Fills (s : List ℕ) (f g : Filling) : Type 0 where
  pub steady : Steady s g.tables
  pub grows : (x : ℕ) → IsNode s x → Grows (table_of f.tables x) (table_of g.tables x)

-- nothing added yet
abbrev pub unfilled : List ℕ → Filling
unfilled t = record { tables = t; list = [] }

pub fills_refl : (s : List ℕ) (f : Filling) → Steady s f.tables → Fills s f f
fills_refl s f w = record { steady = w; grows = λ x n. grows_refl (table_of f.tables x) }

pub fills_trans : {s : List ℕ} {f g h : Filling} → Fills s f g → Fills s g h → Fills s f h
fills_trans a b = record { steady = b.steady; grows = λ x n. grows_trans (a.grows x n) (b.grows x n) }

-- ---- the list only gets longer

pub once_longer : (s : List ℕ) (x i j k : ℕ) (f : Filling) → length (fill_once s x i j k f).list ≡ length f.list + 4
unfolding fill_once added
once_longer s x i j k f = length-append f.list (x ∷ i ∷ j ∷ lowest_absent s f.tables x i j ∷ [])

pub each_longer : (step : ℕ → Filling → Filling) → ((k : ℕ) (f : Filling) → length f.list ≤ length (step k f).list) → (m n : ℕ) → m ≤ n → (f : Filling)
    → length (each_below m step f).list ≤ length (each_below n step f).list
unfolding each_below
each_longer step h m n l f =
    le_ind (λ (n : ℕ). length (each_below m step f).list ≤ length (each_below n step f).list) (le_refl _)
    (λ k g q. le_trans q (h k (each_below k step f))) n l

-- so do all additions of a loop
loop_longer : (step : ℕ → Filling → Filling) → ((k : ℕ) (f : Filling) → length f.list ≤ length (step k f).list) → (n : ℕ) (f : Filling)
    → length f.list ≤ length (each_below n step f).list
unfolding each_below
loop_longer step h n f = each_longer step h 0 n (omega arith) f

pub entry_longer : (s : List ℕ) (x i j : ℕ) (f : Filling) → length f.list ≤ length (fill_entry s x i j f).list
unfolding fill_entry
entry_longer s x i j f =
    loop_longer (fill_once s x i j) (λ k f. omega (arith, once_longer s x i j k f)) (short_by s f.tables x i j) f

pub level_longer : (s : List ℕ) (x i : ℕ) (f : Filling) → length f.list ≤ length (fill_level s x i f).list
unfolding fill_level
level_longer s x i f = loop_longer (fill_entry s x i) (entry_longer s x i) (base s) f

pub node_longer : (s : List ℕ) (x : ℕ) (f : Filling) → length f.list ≤ length (fill_node s x f).list
unfolding fill_node
node_longer s x f = loop_longer (fill_level s x) (level_longer s x) (digits s) f

-- ---- another table for a node in a sound state

module _ (s t : List ℕ) (S : Sound s t) (x : ℕ) (nx : IsNode s x) (T : List ℕ) (long : length T ≡ 512) where
  fits : table_start x + 512 ≤ length t
  fits = table_fits s t S x nx

  -- what holds of it, and of each table as it was, holds of each table then
  retabled : (P : ℕ → List ℕ → Type 0) → P x T → ((z : ℕ) → IsNode s z → P z (table_of t z)) → (z : ℕ) → IsNode s z → P z (table_of (with_table t x T) z)
  retabled P px pz z nz = go (ℕ_discrete z x)
    where
      go : Dec (z ≡ x) → P z (table_of (with_table t x T) z)
      go (yes e) = subst (λ (z : ℕ). P z (table_of (with_table t x T) z)) (sym e) (rw (stored_same t x T long fits) px)
      go (no e) = rw (stored_other t x T long fits z nx.low nz.low e (table_fits s t S z nz)) (pz z nz)

  retabled_sound : TableOk s x T → Sound s (with_table t x T)
  retabled_sound ok = record {
    long = record { state = S.long.state; tables = omega (arith, stored_length t x T long fits, S.long.tables) };
    settings = S.settings;
    some = S.some;
    few = S.few;
    ids = S.ids;
    new = S.new;
    tables = retabled (TableOk s) ok S.tables;
    statuses = S.statuses;
    counts = S.counts;
    head = S.head;
    rest = S.rest;
    tables_rest = λ p h g. stored_outside t x T long fits p (inr (omega (arith, nx.low, nx.high, h))) ∙ S.tables_rest p h g;
  }

-- ---- one addition

module _ (s t : List ℕ) (w : Steady s t) (x i j : ℕ) (e : EntryOf s x i j) (short : 1 ≤ short_by s t x i j) where
  size_less : entry_size (depth s) (table_of t x) i j < min (depth s) (how_many s x i j)
  unfolding short_by
  size_less = omega (arith, short)

  -- there is an absent node
  some_absent : any_node s (is_absent s t x i j) ≡ true
  unfolding is_absent
  some_absent = ⊎_elim (λ q. q) (λ q. absurd (none q)) (true_or_false (any_node s (is_absent s t x i j)))
    where
      none : any_node s (is_absent s t x i j) ≡ false → ⊥
      none q =
          let whole =
          entry_whole_lem s t w.sound x i j e.node e.level e.digit
          (λ z nz qual.
          held_no_room (depth s) (table_of t x) i j z
          (not-false (holds (depth s) (table_of t x) i j z)
          (sym (ap (λ (b : Bool). b && not (holds (depth s) (table_of t x) i j z)) qual) ∙ no_node_at (node_count s) (is_absent s t x i j) q z nz.low nz.high))) in
          omega (arith, size_less, whole)

  -- and the lowest of them is one
  pub lowest_node : IsNode s (lowest_absent s t x i j)
  unfolding lowest_absent
  lowest_node = record { low = omega arith; high = omega (arith, first_some (node_count s) (node (is_absent s t x i j)) some_absent) }

  pub lowest_absent_lem : is_absent s t x i j (lowest_absent s t x i j) ≡ true
  unfolding lowest_absent
  lowest_absent_lem =
      first_holds (node_count s) (node (is_absent s t x i j)) (first_some (node_count s) (node (is_absent s t x i j)) some_absent)

  -- the entry has room for it
  pub short_room : entry_size (depth s) (table_of t x) i j < depth s
  short_room = omega (arith, size_less)

  pub lowest_addable : Addable s x (table_of t x) i j (lowest_absent s t x i j)
  unfolding is_absent
  lowest_addable = record {
    level = e.level;
    digit = e.digit;
    room = short_room;
    first = lowest_node.low;
    last = lowest_node.high;
    may =
        or_intro_right (eqb (lowest_absent s t x i j) x) (is_attached s (lowest_absent s t x i j))
        (attached_in_system s (lowest_absent s t x i j) (w.settled (lowest_absent s t x i j) lowest_node));
    qual = and_left (qualifies s x i j (lowest_absent s t x i j)) _ lowest_absent_lem;
    absent = not-true _ (and_right (qualifies s x i j (lowest_absent s t x i j)) _ lowest_absent_lem);
  }

module _ (s : List ℕ) (f : Filling) (w : Steady s f.tables) (x i j : ℕ) (e : EntryOf s x i j) (short : 1 ≤ short_by s f.tables x i j) (k : ℕ) where
  abbrev T : List ℕ
  T = table_of f.tables x

  abbrev y : ℕ
  y = lowest_absent s f.tables x i j

  abbrev S : Sound s f.tables
  S = w.sound

  long : length T ≡ 512
  long = table_length f.tables x (table_fits s f.tables S x e.node)

  grown : length (append (depth s) T i j y) ≡ 512
  grown = append_length (depth s) T i j y ∙ long

  pub fills_once : Fills s f (fill_once s x i j k f)
  unfolding fill_once added
  fills_once = record {
    steady = record {
      sound =
          retabled_sound s f.tables S x e.node (append (depth s) T i j y) grown
          (append_ok s x T i j y S.settings long e.node.low (S.tables x e.node) (lowest_addable s f.tables w x i j e short));
      settled = w.settled;
    };
    grows =
        retabled s f.tables S x e.node (append (depth s) T i j y) grown (λ z U. Grows (table_of f.tables z) U)
        (append_grows (depth s) T i j y (short_room s f.tables w x i j e short)) (λ z n. grows_refl (table_of f.tables z));
  }

  -- the entry is one short less
  pub once_short : short_by s (fill_once s x i j k f).tables x i j + 1 ≡ short_by s f.tables x i j
  unfolding fill_once added short_by
  once_short =
      omega (
        arith,
        short,
        size_less s f.tables w x i j e short,
        ap (λ (U : List ℕ). entry_size (depth s) U i j) (stored_same f.tables x (append (depth s) T i j y) grown (table_fits s f.tables S x e.node))
            ∙ append_size (depth s) T i j y (gapless s f.tables S x i j e.node e.level e.digit) (entry_fits s f.tables S x i j e.node e.level e.digit)
            (short_room s f.tables w x i j e short) (λ z. omega (arith, z, (lowest_node s f.tables w x i j e short).low)),
      )

-- ---- many, as loops have got so far

module _ (s : List ℕ) where
  module _ (x i j : ℕ) (e : EntryOf s x i j) where
    pub fills_some : (f : Filling) → Steady s f.tables → (k : ℕ) → k ≤ short_by s f.tables x i j
        → Fills s f (each_below k (fill_once s x i j) f) × (short_by s (each_below k (fill_once s x i j) f).tables x i j + k ≡ short_by s f.tables x i j)
    fills_some f w k l =
        each_leads (λ (k : ℕ) (g : Filling). Fills s f g × (short_by s g.tables x i j + k ≡ short_by s f.tables x i j)) k (fill_once s x i j) f
        (fills_refl s f w, add-zero _)
        (λ m g h q.
        let left : 1 ≤ short_by s g.tables x i j = omega (arith, q.1, h, l) in (
          fills_trans q.0 (fills_once s g q.0.steady x i j e left m),
          omega (arith, q.1, once_short s g q.0.steady x i j e left m),
        ))

    pub fills_entry : (f : Filling) → Steady s f.tables → Fills s f (fill_entry s x i j f)
    unfolding fill_entry
    fills_entry f w = (fills_some f w (short_by s f.tables x i j) (le_refl _)).0

    -- the entry holds what it must then
    entry_filled : (f : Filling) → Steady s f.tables → short_by s (fill_entry s x i j f).tables x i j ≡ 0
    unfolding fill_entry
    entry_filled f w = omega (arith, (fills_some f w (short_by s f.tables x i j) (le_refl _)).1)

    -- and goes on to hold it
    still_filled : {f g : Filling} → Steady s f.tables → Fills s f g → short_by s f.tables x i j ≡ 0 → short_by s g.tables x i j ≡ 0
    unfolding short_by
    still_filled {f} {g} w a z =
        omega (
          arith,
          z,
          grown_size (depth s) (table_of f.tables x) (table_of g.tables x) i j (a.grows x e.node)
              (entry_fits s f.tables w.sound x i j e.node e.level e.digit),
        )

  pub fills_digits : (x i : ℕ) → IsNode s x → i < digits s → (f : Filling) → Steady s f.tables → (k : ℕ) → k ≤ base s
      → Fills s f (each_below k (fill_entry s x i) f)
  fills_digits x i n hi f w k l =
      each_keeps (Fills s f) k (fill_entry s x i) f (fills_refl s f w)
      (λ j g h a. fills_trans a (fills_entry x i j (record { node = n; level = hi; digit = omega (arith, h, l) }) g a.steady))

  pub fills_level : (x i : ℕ) → IsNode s x → i < digits s → (f : Filling) → Steady s f.tables → Fills s f (fill_level s x i f)
  unfolding fill_level
  fills_level x i n hi f w = fills_digits x i n hi f w (base s) (le_refl (base s))

  pub fills_levels : (x : ℕ) → IsNode s x → (f : Filling) → Steady s f.tables → (k : ℕ) → k ≤ digits s → Fills s f (each_below k (fill_level s x) f)
  fills_levels x n f w k l =
      each_keeps (Fills s f) k (fill_level s x) f (fills_refl s f w)
      (λ i g h a. fills_trans a (fills_level x i n (omega (arith, h, l)) g a.steady))

  pub fills_node : (x : ℕ) → IsNode s x → (f : Filling) → Steady s f.tables → Fills s f (fill_node s x f)
  unfolding fill_node
  fills_node x n f w = fills_levels x n f w (digits s) (le_refl (digits s))

  pub fills_nodes : (f : Filling) → Steady s f.tables → (k : ℕ) → k ≤ node_count s → Fills s f (each_below k (node (fill_node s)) f)
  fills_nodes f w k l =
      each_keeps (Fills s f) k (node (fill_node s)) f (fills_refl s f w)
      (λ y g h a. fills_trans a (fills_node (y + 1) (record { low = omega arith; high = omega (arith, h, l) }) g a.steady))

-- ---- the whole

module _ (s t : List ℕ) (w : Steady s t) where
  pub filling_fills : Fills s (unfilled t) (filling s t)
  unfolding filling
  filling_fills = fills_nodes s (unfilled t) w (node_count s) (le_refl (node_count s))

  pub filling_onward : Onward s t s (filling s t).tables
  filling_onward = later_onward (later_refl s) (λ x a. filling_fills.grows x a.node)

  -- each entry is filled in its turn, and stays so
  filled_there : (x i j : ℕ) → EntryOf s x i j → short_by s (filling s t).tables x i j ≡ 0
  unfolding filling fill_node fill_level
  filled_there x i j e =
      let p : x ≡ x - 1 + 1 = omega (arith, e.node.low) in
      each_does Q P (node_count s) (node (fill_node s)) (unfilled t) w
      (λ k g h v. (fills_node s (k + 1) (at k h) g v).steady) (x - 1) (omega (arith, e.node.low, e.node.high))
      (λ g v. subst (λ (x : ℕ). P (fill_node s x g)) p (in_node g v))
      (λ k g h v z. still_filled s x i j e {f = g} {g = fill_node s (k + 1) g} v (fills_node s (k + 1) (at k h) g v) z)
    where
      Q : Filling → Type 0
      Q g = Steady s g.tables

      P : Filling → Type 0
      P g = short_by s g.tables x i j ≡ 0

      at : (k : ℕ) → k < node_count s → IsNode s (k + 1)
      at k h = record { low = omega arith; high = omega (arith, h) }

      in_level : (g : Filling) → Q g → P (each_below (base s) (fill_entry s x i) g)
      in_level g v =
          each_does Q P (base s) (fill_entry s x i) g v
          (λ k g h v. (fills_entry s x i k (record { node = e.node; level = e.level; digit = h }) g v).steady) j e.digit
          (λ g v. entry_filled s x i j e g v)
          (λ k g h v z. still_filled s x i j e {f = g} {g = fill_entry s x i k g} v (fills_entry s x i k (record { node = e.node; level = e.level; digit = h }) g v) z)

      in_node : (g : Filling) → Q g → P (each_below (digits s) (fill_level s x) g)
      in_node g v =
          each_does Q P (digits s) (fill_level s x) g v
          (λ k g h v. (fills_level s x k e.node h g v).steady) i e.level in_level
          (λ k g h v z. still_filled s x i j e {f = g} {g = fill_level s x k g} v (fills_level s x k e.node h g v) z)

  -- so every entry holds what it must
  pub filling_whole : Whole s (filling s t).tables
  unfolding short_by entry_whole
  filling_whole x i j n hi hj =
      let S = filling_fills.steady.sound in
      let z = filled_there x i j (record { node = n; level = hi; digit = hj }) in
      ⊎_elim (eqb-true _ _)
      (λ q. absurd (omega (arith, z, entry_fewer s (filling s t).tables S x i j n hi hj q, size_is_length s (filling s t).tables S x i j n hi hj)))
      (true_or_false (entry_whole s (filling s t).tables x i j))

  -- where every entry does already nothing is added
  pub filling_none : Whole s t → filling s t ≡ unfilled t
  unfolding filling fill_node fill_level fill_entry short_by each_below
  filling_none h =
      each_keeps Same (node_count s) (node (fill_node s)) (unfilled t) refl
      (λ x g l q.
      each_keeps Same (digits s) (fill_level s (x + 1)) g q
      (λ i g hi q.
      each_keeps Same (base s) (fill_entry s (x + 1) i) g q
      (λ j g hj q.
      let none : short_by s g.tables (x + 1) i j ≡ 0 = ap (λ (g : Filling). short_by s g.tables (x + 1) i j) q ∙ short x i j l hi hj in
      ap (λ (n : ℕ). each_below n (fill_once s (x + 1) i j) g) none ∙ q)))
    where
      Same : Filling → Type 0
      Same g = g ≡ unfilled t

      short : (x i j : ℕ) → x < node_count s → i < digits s → j < base s → short_by s t (x + 1) i j ≡ 0
      short x i j l hi hj = omega (arith, h (x + 1) i j (record { low = omega arith; high = omega (arith, l) }) hi hj)
