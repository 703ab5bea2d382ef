-- Additions listed one behind another: what is filled and listed after k turns of a loop, that the next addition fits, and that the state stays steady.
-- o is the memory for the list as it was, at the place from which on it is written. Assumes nothing.
use Prim.Native.Nat.{ℕ, ◌+◌, ◌-◌, ◌≤◌, ◌<◌}
use mathlib.Core.Path.{◌≡◌, refl, sym, ap, ap₂, subst, ◌∙◌}
use mathlib.Core.List.{List, [], ◌∷◌, ◌++◌, append_assoc}
use native.Mathlib.Nat.{le_refl, le_trans, le_antisymm}
use native.Mathlib.Omega.{arith}
use lib.ListN.{length, take, drop, length-append, take-append-drop}
use lib.Seq.{length-take-le, take_at, drop_at, drop-drop}
use Rattle.model.specs.Loops.{each_below, node}
use Rattle.model.specs.Memory.{base, digits, depth, node_count, table_of, with_table}
use Rattle.model.specs.Tables.{append}
use Rattle.model.specs.Fill.{Filling, lowest_absent, short_by, added, fill_once, fill_entry, fill_level, fill_node, filling}
use Rattle.model.proofs.Loops.{each_step}
use Rattle.model.proofs.Status.{IsNode}
use Rattle.model.proofs.Filling.{Steady, EntryOf, Fills, once_longer, each_longer, entry_longer, level_longer, node_longer, short_room, fills_some, fills_digits, fills_levels, fills_nodes}
use Rattle.tables.specs.Places.{Appends}
use Rattle.putting.specs.Put.{put, Put}
use Rattle.putting.proofs.Putting.{put_same_length}
use Rattle.filling.specs.Sofar.{sofar, Fits, Listed}

-- ---- loops

module _ (o : List ℕ) (at : ℕ) (step : ℕ → Filling → Filling) where
  -- nothing is listed yet
  pub listed_none : (t : List ℕ) → at ≤ length o → Listed o at (each_below 0 step (sofar t o at)) t o at
  unfolding each_below
  listed_none t l = record { is = refl; rest = refl; same = refl; start = le_refl at; within = l }

  module _ (f : Filling) (k : ℕ) (t p : List ℕ) (r : ℕ) (P : Listed o at (each_below k step f) t p r) where
    -- one turn more
    pub listed_goes : (u q : List ℕ) (e : ℕ) → Listed p r (step k (sofar t p r)) u q e → Listed o at (each_below (k + 1) step f) u q e
    listed_goes u q e Q = record {
      is = each_step k step f (sofar t p r) (sofar u q e) P.is Q.is;
      rest = Q.rest ∙ behind;
      same = Q.same ∙ P.same;
      start = le_trans P.start Q.start;
      within = Q.within;
    }
      where
        behind : drop e p ≡ drop e o
        behind =
            let w : e ≡ r + (e - r) = omega (arith, Q.start) in
            ap (λ (n : ℕ). drop n p) w
            ∙ sym (drop-drop (e - r) r p)
            ∙ ap (drop (e - r)) P.rest
            ∙ drop-drop (e - r) r o
            ∙ ap (λ (n : ℕ). drop n o) (sym w)

    -- what it adds fits; m is n as the code has read it
    listed_fits : ((k : ℕ) (f : Filling) → length f.list ≤ length (step k f).list) → (m n : ℕ) → m ≡ n → k < m → Fits (each_below n step f) o at
        → Fits (step k (sofar t p r)) p r
    listed_fits longer m n e l F = record {
      start = P.within;
      room =
          omega (
            arith,
            ap (λ (g : Filling). length g.list) (each_step k step f (sofar t p r) (step k (sofar t p r)) P.is refl),
            each_longer step longer (k + 1) n (omega arith) f,
            F.room,
            P.same,
          );
    }

    pub listed_ends : (m n : ℕ) → m ≡ n → k ≤ m → m ≤ k → Listed o at (each_below n step f) t p r
    listed_ends m n e l g = subst (λ (n : ℕ). Listed o at (each_below n step f) t p r) (le_antisymm l g ∙ e) P

-- what comes of steady tables by additions is steady
still_steady : (s : List ℕ) (f g : Filling) (o : List ℕ) (at : ℕ) (t p : List ℕ) (r : ℕ) → Listed o at g t p r → Fills s f g → Steady s t
still_steady s f g o at t p r P F = subst (λ (g : Filling). Steady s g.tables) (sym P.is) F.steady

-- ---- one addition

module _ (s t : List ℕ) (x i j : ℕ) (o : List ℕ) (at : ℕ) where
  abbrev g : Filling
  g = added s x i j (lowest_absent s t x i j) (sofar t o at)

  -- its four bytes
  pub once_room : Fits g o at → at + 4 ≤ length o
  unfolding added
  once_room F =
      omega (arith, F.room, length-append (take at o) (x ∷ i ∷ j ∷ lowest_absent s t x i j ∷ []), length-take-le at o F.start)

  -- the entry has room
  pub once_appends : (K y : ℕ) → Steady s t → EntryOf s x i j → 1 ≤ short_by s t x i j → K ≡ depth s → y ≤ 65 → Appends t K x i j y
  once_appends K y w e short eK l = record {
    long = w.sound.long.tables;
    first = e.node.low;
    last = omega (arith, e.node.high, w.sound.few);
    level = omega (arith, e.level, w.sound.settings.digits_most);
    digit = omega (arith, e.digit, w.sound.settings.base_most);
    deep = omega (arith, w.sound.settings.depth_most);
    room = rw eK (short_room s t w x i j e short);
    byte = omega arith;
  }

  pub once_listed : (K y : ℕ) (u p : List ℕ) (r : ℕ) → K ≡ depth s → y ≡ lowest_absent s t x i j → u ≡ with_table t x (append K (table_of t x) i j y)
      → Put o at (x ∷ i ∷ j ∷ y ∷ []) p r → Listed o at g u p r
  unfolding added put
  once_listed K y u p r eK ey eu P = record {
    is =
        ap₂ (λ (u l : List ℕ). record { tables = u; list = l })
        (eu ∙ ap₂ (λ (K y : ℕ). with_table t x (append K (table_of t x) i j y)) eK ey)
        (ap₂ take ends split ∙ take_at front behind (at + 4) long ∙ ap (λ (y : ℕ). take at o ++ (x ∷ i ∷ j ∷ y ∷ [])) ey);
    rest = ap₂ drop ends split ∙ drop_at front behind (at + 4) long ∙ ap (λ (n : ℕ). drop n o) (sym ends);
    same = same;
    start = omega (arith, ends);
    within = omega (arith, ends, same, P.fits);
  }
    where
      front : List ℕ
      front = take at o ++ (x ∷ i ∷ j ∷ y ∷ [])

      behind : List ℕ
      behind = drop (at + 4) o

      ends : r ≡ at + 4
      ends = P.ends

      same : length p ≡ length o
      same = put_same_length o at (x ∷ i ∷ j ∷ y ∷ []) p r P

      split : p ≡ front ++ behind
      split = P.is ∙ sym (append_assoc (take at o) (x ∷ i ∷ j ∷ y ∷ []) behind)

      long : length front ≡ at + 4
      long = length-append (take at o) (x ∷ i ∷ j ∷ y ∷ []) ∙ ap (λ (n : ℕ). n + 4) (length-take-le at o (omega (arith, P.fits)))

-- ---- as many as the entry is short

module _ (s t : List ℕ) (x i j : ℕ) (o : List ℕ) (at many k : ℕ) (em : many ≡ short_by s t x i j) (u p : List ℕ) (r : ℕ)
    (P : Listed o at (each_below k (fill_once s x i j) (sofar t o at)) u p r) where
  module _ (w : Steady s t) (e : EntryOf s x i j) (l : k < many) where
    pub once_steady : Steady s u
    once_steady = still_steady s (sofar t o at) _ o at u p r P (fills_some s x i j e (sofar t o at) w k (omega arith)).0

    pub once_short : 1 ≤ short_by s u x i j
    once_short =
        subst (λ (g : Filling). 1 ≤ short_by s g.tables x i j) (sym P.is)
        (omega (arith, (fills_some s x i j e (sofar t o at) w k (omega arith)).1))

  pub once_fits : k < many → Fits (fill_entry s x i j (sofar t o at)) o at → Fits (added s x i j (lowest_absent s u x i j) (sofar u p r)) p r
  unfolding fill_entry fill_once
  once_fits l =
      listed_fits o at (fill_once s x i j) (sofar t o at) k u p r P (λ k f. omega (arith, once_longer s x i j k f)) many (short_by s t x i j) em l

  pub once_goes : (v q : List ℕ) (e : ℕ) → Listed p r (added s x i j (lowest_absent s u x i j) (sofar u p r)) v q e
      → Listed o at (each_below (k + 1) (fill_once s x i j) (sofar t o at)) v q e
  unfolding fill_once
  once_goes = listed_goes o at (fill_once s x i j) (sofar t o at) k u p r P

  pub once_ends : k ≤ many → many ≤ k → Listed o at (fill_entry s x i j (sofar t o at)) u p r
  unfolding fill_entry
  once_ends = listed_ends o at (fill_once s x i j) (sofar t o at) k u p r P many (short_by s t x i j) em

-- ---- every digit of a level, every level of a node, every node

module _ (s t o : List ℕ) (at k m : ℕ) (l : k < m) (u p : List ℕ) (r : ℕ) where
  module _ (x i : ℕ) (P : Listed o at (each_below k (fill_entry s x i) (sofar t o at)) u p r) (e : m ≡ base s) where
    pub level_steady : Steady s t → IsNode s x → i < digits s → Steady s u
    level_steady w n hi = still_steady s (sofar t o at) _ o at u p r P (fills_digits s x i n hi (sofar t o at) w k (omega arith))

    pub level_fits : Fits (fill_level s x i (sofar t o at)) o at → Fits (fill_entry s x i k (sofar u p r)) p r
    unfolding fill_level
    level_fits = listed_fits o at (fill_entry s x i) (sofar t o at) k u p r P (entry_longer s x i) m (base s) e l

  module _ (x : ℕ) (P : Listed o at (each_below k (fill_level s x) (sofar t o at)) u p r) (e : m ≡ digits s) where
    pub node_steady : Steady s t → IsNode s x → Steady s u
    node_steady w n = still_steady s (sofar t o at) _ o at u p r P (fills_levels s x n (sofar t o at) w k (omega arith))

    pub node_fits : Fits (fill_node s x (sofar t o at)) o at → Fits (fill_level s x k (sofar u p r)) p r
    unfolding fill_node
    node_fits = listed_fits o at (fill_level s x) (sofar t o at) k u p r P (level_longer s x) m (digits s) e l

-- ---- the whole, listed from the start of o

module _ (s t o : List ℕ) (k m : ℕ) (u p : List ℕ) (r : ℕ) (P : Listed o 0 (each_below k (node (fill_node s)) (sofar t o 0)) u p r) (e : m ≡ node_count s) where
  module _ (l : k < m) where
    pub all_steady : Steady s t → Steady s u
    all_steady w = still_steady s (sofar t o 0) _ o 0 u p r P (fills_nodes s (sofar t o 0) w k (omega arith))

    pub all_fits : length (filling s t).list ≤ length o → Fits (fill_node s (k + 1) (sofar u p r)) p r
    unfolding filling
    all_fits h =
        listed_fits o 0 (node (fill_node s)) (sofar t o 0) k u p r P (λ k. node_longer s (k + 1)) m (node_count s) e l
        (record { start = omega arith; room = h })

  module _ (l : k ≤ m) (h : m ≤ k) where
    done : Listed o 0 (filling s t) u p r
    unfolding filling
    done = listed_ends o 0 (node (fill_node s)) (sofar t o 0) k u p r P m (node_count s) e l h

    pub all_tables : u ≡ (filling s t).tables
    all_tables = ap (λ (g : Filling). g.tables) done.is

    pub all_length : r ≡ length (filling s t).list
    all_length = sym (length-take-le r p done.within) ∙ ap (λ (g : Filling). length g.list) done.is

    pub all_list : p ≡ (filling s t).list ++ drop (length (filling s t).list) o
    all_list =
        sym (take-append-drop r p)
        ∙ ap₂ ◌++◌ (ap (λ (g : Filling). g.list) done.is) (done.rest ∙ ap (λ (n : ℕ). drop n o) all_length)
