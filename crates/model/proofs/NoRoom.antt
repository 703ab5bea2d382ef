-- Where there is no room for a node: it stands in the entry, or the entry is full. Growing tables keep that, learning brings it about, and a network is whole
-- exactly where no table has room for a node that qualifies. Assumes nothing.
use Prim.Native.Nat.{ℕ, zero, suc, ◌+◌, ◌≤◌, ◌<◌, min}
use mathlib.Core.Path.{◌≡◌, refl, sym, ap, ap₂, subst, ◌∙◌}
use mathlib.Core.Logic.{◌≢◌, ◌⊎◌, inl, inr, ⊎_elim}
use mathlib.Core.Bool.{Bool, true, false, cond, not, ◌&&◌}
use mathlib.Core.List.{List, ◌∷◌}
use native.Mathlib.Decide.{dec_lt}
use native.Mathlib.Nat.{le_refl, lt_of_not-le}
use native.Mathlib.Omega.{arith}
use lib.Dec.{ltb}
use lib.ListN.{length, get_or}
use borrow.Author.Tests.{ltb-true, ltb-false, le-leb, le-ltb, eqb-true, eq-eqb}
use Rattle.model.specs.Loops.{first_below, node}
use Rattle.model.specs.Ids.{digit_of}
use Rattle.model.specs.Memory.{base, digits, depth, node_count, id_of, table_of}
use Rattle.model.specs.Tables.{slot_place, slot_at, slot_is, entry_size, holds, append}
use Rattle.model.specs.Nodes.{suffix_of, qualifies}
use Rattle.model.specs.Learning.{floor_of, room_for, learn_at, learn, learn_place, learn_table}
use Rattle.model.specs.Consistency.{how_many, neighbors, entry_whole}
use Rattle.model.proofs.Bools.{true_or_false, and_right}
use Rattle.model.proofs.Loops.{any_of, count_le, first_some, first_holds, each_does}
use Rattle.model.proofs.Counting.{count_least, count_most}
use Rattle.model.proofs.Ids.{InRange, digit_lt, valid_digit, qualified_of, qualified_suffix, qualified_digit}
use Rattle.model.proofs.Tables.{size_le, size_filled, holds_not, GapFree, gap_rest, append_here, Grows, grown_size}
use Rattle.model.proofs.Status.{IsNode}
use Rattle.model.proofs.Sound.{SlotOk, Sound}
use Rattle.model.proofs.SoundNodes.{suffix_below}
use Rattle.model.proofs.Learning.{learn_at_grows, learn_place_is, learn_place_grows}
use Rattle.model.proofs.LearningKeepsRules.{entries_of, gap_free}
use Rattle.model.proofs.SoundEntries.{nodes_least, slot_in, slots_differ, size_is_length, entry_slot, entry_node, entry_qualifies, entry_differ}
use Rattle.model.proofs.Consistency.{Whole, entry_fewer}

-- ---- an entry

module _ (K : ℕ) (T : List ℕ) (i j : ℕ) where
  pub slot_held : (z k : ℕ) → k < K → slot_at T i j k ≡ z → holds K T i j z ≡ true
  unfolding holds
  slot_held z k l e = any_of K (slot_is T i j z) k l (eq-eqb (slot_at T i j k) z e)

  -- the first slot that holds z
  abbrev pub place : ℕ → ℕ
  place z = first_below K (slot_is T i j z)

  pub held_place : (z : ℕ) → holds K T i j z ≡ true → (place z < K) × (slot_at T i j (place z) ≡ z)
  unfolding holds
  held_place z e =
      let l = first_some K (slot_is T i j z) e in
      (l, eqb-true (slot_at T i j (place z)) z (first_holds K (slot_is T i j z) l))

  -- which no other has
  same_place : (y z : ℕ) → holds K T i j y ≡ true → holds K T i j z ≡ true → place y ≡ place z → y ≡ z
  same_place y z e f q = sym (held_place y e).1 ∙ ap (slot_at T i j) q ∙ (held_place z f).1

  pub held_no_room : (z : ℕ) → holds K T i j z ≡ true → room_for K T i j z ≡ false
  unfolding room_for
  held_no_room z e = ap (λ (b : Bool). not b && ltb (entry_size K T i j) K) e

  pub full_no_room : (z : ℕ) → entry_size K T i j ≡ K → room_for K T i j z ≡ false
  unfolding room_for
  full_no_room z e = go (not (holds K T i j z)) (le-ltb (entry_size K T i j) K (omega arith))
    where
      go : (b : Bool) → ltb (entry_size K T i j) K ≡ false → (b && ltb (entry_size K T i j) K) ≡ false
      go true f = f
      go false f = refl

  pub no_room_cases : (z : ℕ) → room_for K T i j z ≡ false → (holds K T i j z ≡ true) ⊎ (entry_size K T i j ≡ K)
  unfolding room_for
  no_room_cases z e = ⊎_elim (λ h. inl h) (λ h. inr (full h)) (true_or_false (holds K T i j z))
    where
      full : holds K T i j z ≡ false → entry_size K T i j ≡ K
      full h =
          let f = sym (ap (λ (b : Bool). not b && ltb (entry_size K T i j) K) h) ∙ e in
          omega (arith, ltb-false (entry_size K T i j) K f, size_le K T i j)

  module _ (gapless : GapFree K T i j) where
    -- a node of the entry has its place before the end
    pub place_before : (z : ℕ) → z ≢ 0 → holds K T i j z ≡ true → place z < entry_size K T i j
    place_before z some e =
        lt_of_not-le (λ l. some (sym (held_place z e).1 ∙ gap_rest K T i j gapless (place z) l (held_place z e).0))

    -- K different nodes for which there is no room fill the entry
    different_full : (f : ℕ → ℕ) → ((k : ℕ) → k < K → (f k ≢ 0) × (room_for K T i j (f k) ≡ false))
        → ((k l : ℕ) → k < K → l < K → f k ≡ f l → k ≡ l) → entry_size K T i j ≡ K
    different_full f none differ = go (dec_lt (entry_size K T i j) K)
      where
        held : entry_size K T i j < K → (k : ℕ) → k < K → holds K T i j (f k) ≡ true
        held l k h = ⊎_elim (λ e. e) (λ e. absurd (omega (arith, e))) (no_room_cases (f k) (none k h).1)

        go : Dec (entry_size K T i j < K) → entry_size K T i j ≡ K
        go (no g) = omega (arith, size_le K T i j)
        go (yes l) =
            let n = count_least (entry_size K T i j) K (λ k. true) (λ k. place (f k))
            (λ k h. (place_before (f k) (none k h).0 (held l k h), refl))
            (λ k m h g e. differ k m h g (same_place (f k) (f m) (held l k h) (held l m g) e)) in
            absurd (omega (arith, l, n, count_le (entry_size K T i j) (λ k. true)))

-- a table that gains nodes gains no room
grown_no_room : (K : ℕ) (T T' : List ℕ) (i j : ℕ) → Grows T T' → slot_place i j K ≤ length T → (z : ℕ) → z ≢ 0
    → room_for K T i j z ≡ false → room_for K T' i j z ≡ false
grown_no_room K T T' i j g fits z some e = ⊎_elim held full (no_room_cases K T i j z e)
  where
    held : holds K T i j z ≡ true → room_for K T' i j z ≡ false
    held h =
        let f = held_place K T i j z h in
        held_no_room K T' i j z
        (slot_held K T' i j z (place K T i j z) f.0 (g.kept _ (λ q. some (sym f.1 ∙ q)) ∙ f.1))

    full : entry_size K T i j ≡ K → room_for K T' i j z ≡ false
    full h = full_no_room K T' i j z (omega (arith, h, grown_size K T T' i j g fits, size_le K T' i j))

-- ---- a table, in a state

-- at level i of the table T there is no room for z
abbrev pub NoRoom : List ℕ → List ℕ → ℕ → ℕ → Type 0
NoRoom s T z i = room_for (depth s) T i (digit_of (id_of s z) i) z ≡ false

-- the same in a state of the same depth in which z has the same id
pub no_room_by : (s s' T : List ℕ) (z i : ℕ) → depth s' ≡ depth s → id_of s' z ≡ id_of s z → NoRoom s T z i → NoRoom s' T z i
no_room_by s s' T z i d e h = ap₂ (λ (K id : ℕ). room_for K T i (digit_of id i) z) d e ∙ h

module _ (s : List ℕ) (range : InRange (base s) (digits s) (depth s)) where
  -- the entry of z's digit lies in a table
  fits : (z i : ℕ) (T : List ℕ) → i < digits s → length T ≡ 512 → slot_place i (digit_of (id_of s z) i) (depth s) ≤ length T
  fits z i T hi long = omega (arith, range.digits_most, range.depth_most, digit_lt (id_of s z) i, long, hi)

  pub no_room_grows : (T T' : List ℕ) (z i : ℕ) → Grows T T' → length T ≡ 512 → z ≢ 0 → i < digits s → NoRoom s T z i → NoRoom s T' z i
  no_room_grows T T' z i g long some hi = grown_no_room (depth s) T T' i (digit_of (id_of s z) i) g (fits z i T hi long) z some

  -- ---- learning leaves no room

  module _ (u : ℕ) (some : u ≢ 0) (i : ℕ) (floor : floor_of s u ≤ i) (hi : i < digits s) where
    abbrev j : ℕ
    j = digit_of (id_of s u) i

    learned_at : (T : List ℕ) → length T ≡ 512 → NoRoom s (learn_at s u i T) u i
    unfolding learn_at room_for
    learned_at T long = go (true_or_false (room_for (depth s) T i j u))
      where
        went : (b : Bool) → room_for (depth s) T i j u ≡ b → learn_at s u i T ≡ cond b (append (depth s) T i j u) T
        went b e = ap₂ (λ (a b : Bool). cond (a && b) (append (depth s) T i j u) T) (le-leb (floor_of s u) i floor) e

        go : (room_for (depth s) T i j u ≡ true) ⊎ (room_for (depth s) T i j u ≡ false) → NoRoom s (learn_at s u i T) u i
        go (inl e) =
            let l = ltb-true (entry_size (depth s) T i j) (depth s) (and_right (not (holds (depth s) T i j u)) _ e) in
            rw (went true e)
            (held_no_room (depth s) (append (depth s) T i j u) i j u
            (slot_held (depth s) (append (depth s) T i j u) i j u (entry_size (depth s) T i j) l
            (append_here (depth s) T i j u (omega (arith, l, fits u i T hi long)))))
        go (inr e) = rw (went false e) e

    -- x has learned u
    pub node_learned : (x : ℕ) → i ≤ suffix_of s x u → (T : List ℕ) → length T ≡ 512 → NoRoom s (learn s x u T) u i
    unfolding learn
    node_learned x low T long =
        each_does (λ (T : List ℕ). length T ≡ 512) (λ (T : List ℕ). NoRoom s T u i) (suc (suffix_of s x u)) (learn_at s u) T long
        (λ k T l e. (learn_at_grows s u k T).long ∙ e) i (omega arith) learned_at
        (λ k T l e. no_room_grows T (learn_at s u k T) u i (learn_at_grows s u k T) e some hi)

  -- x has learned a table in which u stands
  pub table_learned : (x : ℕ) (Y : List ℕ) (p : ℕ) → p < 512 → get_or Y p 0 ≢ 0 → get_or Y p 0 ≢ x → (i : ℕ) → floor_of s (get_or Y p 0) ≤ i
      → i ≤ suffix_of s x (get_or Y p 0) → i < digits s → (T : List ℕ) → length T ≡ 512 → NoRoom s (learn_table s x Y T) (get_or Y p 0) i
  unfolding learn_table
  table_learned x Y p h some other i floor low hi T long =
      each_does (λ (T : List ℕ). length T ≡ 512) (λ (T : List ℕ). NoRoom s T (get_or Y p 0) i) 512 (learn_place s x Y) T long
      (λ q T l e. (learn_place_grows s x Y q T).long ∙ e) p h
      (λ T e. rw (learn_place_is s x Y p T some other) (node_learned (get_or Y p 0) some i floor hi x low T e))
      (λ q T l e. no_room_grows T (learn_place s x Y q T) (get_or Y p 0) i (learn_place_grows s x Y q T) e some hi)

-- ---- in a sound state

module _ (s t : List ℕ) (S : Sound s t) where
  -- in no table there is room for its own node
  pub own_no_room : (u i : ℕ) → IsNode s u → i < digits s → NoRoom s (table_of t u) u i
  own_no_room u i nu hi =
      held_no_room (depth s) (table_of t u) i (digit_of (id_of s u) i) u
      (slot_held (depth s) (table_of t u) i (digit_of (id_of s u) i) u 0 S.settings.depth_least ((S.tables u nu).owner i hi))

  module _ (u i j : ℕ) (nu : IsNode s u) (hi : i < digits s) (hj : j < base s) where
    abbrev T : List ℕ
    T = table_of t u

    abbrev N : List ℕ
    N = neighbors s t u i j

    pub gapless : GapFree (depth s) (table_of t u) i j
    gapless = gap_free s u T (entries_of s u T (S.tables u nu)) i j hi hj

    -- an entry is full in which there is no room for any node of this one, where this one is full
    pub filled_by : entry_size (depth s) (table_of t u) i j ≡ depth s → (T' : List ℕ) (i' j' : ℕ) → GapFree (depth s) T' i' j'
        → ((k : ℕ) → k < depth s → SlotOk s u (table_of t u) i j k → slot_at (table_of t u) i j k ≢ 0
        → room_for (depth s) T' i' j' (slot_at (table_of t u) i j k) ≡ false)
        → entry_size (depth s) T' i' j' ≡ depth s
    filled_by full T' i' j' g none =
        different_full (depth s) T' i' j' g (slot_at T i j) (λ k l. (filled k l, none k l (slot_in s t S u i j nu hi hj k (in_it k l)) (filled k l)))
        (λ k l p q. slots_differ s t S u i j nu hi hj k l (in_it k p) (in_it l q))
      where
        in_it : (k : ℕ) → k < depth s → k < entry_size (depth s) T i j
        in_it k l = omega (arith, full, l)

        filled : (k : ℕ) → k < depth s → slot_at T i j k ≢ 0
        filled k l = size_filled (depth s) T i j k (in_it k l)

    -- a node of the entry stands at some place of it as a list
    pub held_entry : (z : ℕ) → 1 ≤ z → holds (depth s) (table_of t u) i j z ≡ true
        → (k : ℕ) × (k < length (neighbors s t u i j)) × (get_or (neighbors s t u i j) k 0 ≡ z)
    held_entry z low e =
        let k : ℕ = place (depth s) T i j z in
        let l = place_before (depth s) T i j gapless z (omega (arith, low)) e in
        let h : place (depth s) T i j z < length N = omega (arith, l, size_is_length s t S u i j nu hi hj) in
        (k, h, entry_slot s t S u i j nu hi hj k h ∙ (held_place (depth s) T i j z e).1)

    -- a node that qualifies and does not stand in the entry: so one node more qualifies than stands there
    another : (z : ℕ) → IsNode s z → qualifies s u i j z ≡ true → holds (depth s) (table_of t u) i j z ≡ false
        → suc (length (neighbors s t u i j)) ≤ how_many s u i j
    unfolding how_many
    another z nz qual absent = nodes_least s (qualifies s u i j) (suc (length N)) (λ k. get_or (z ∷ N) k 0) qualified different
      where
        qualified : (k : ℕ) → k < suc (length N) → IsNode s (get_or (z ∷ N) k 0) × (qualifies s u i j (get_or (z ∷ N) k 0) ≡ true)
        qualified zero l = (nz, qual)
        qualified (suc k) l = (entry_node s t S u i j nu hi hj k (omega arith), entry_qualifies s t S u i j nu hi hj k (omega arith))

        away : (k : ℕ) → k < length N → z ≢ get_or N k 0
        away k l e =
            holds_not (depth s) T i j z absent k (omega (arith, l, size_is_length s t S u i j nu hi hj, size_le (depth s) T i j))
            (sym (entry_slot s t S u i j nu hi hj k l) ∙ sym e)

        different : (k l : ℕ) → k < suc (length N) → l < suc (length N) → get_or (z ∷ N) k 0 ≡ get_or (z ∷ N) l 0 → k ≡ l
        different zero zero h g e = refl
        different zero (suc l) h g e = absurd (away l (omega arith) e)
        different (suc k) zero h g e = absurd (away k (omega arith) (sym e))
        different (suc k) (suc l) h g e = ap suc (entry_differ s t S u i j nu hi hj k l (omega arith) (omega arith) e)

    -- an entry that holds what it must has no room for a node that qualifies
    whole_entry : entry_size (depth s) (table_of t u) i j ≡ min (depth s) (how_many s u i j) → (z : ℕ) → IsNode s z → qualifies s u i j z ≡ true
        → room_for (depth s) (table_of t u) i j z ≡ false
    whole_entry w z nz qual = ⊎_elim (held_no_room (depth s) T i j z) full (true_or_false (holds (depth s) T i j z))
      where
        full : holds (depth s) T i j z ≡ false → room_for (depth s) T i j z ≡ false
        full e =
            full_no_room (depth s) T i j z
            (omega (arith, w, size_is_length s t S u i j nu hi hj, another z nz qual e))

    -- and one without room for any holds what it must
    pub entry_whole_lem : ((z : ℕ) → IsNode s z → qualifies s u i j z ≡ true → room_for (depth s) (table_of t u) i j z ≡ false)
        → entry_size (depth s) (table_of t u) i j ≡ min (depth s) (how_many s u i j)
    unfolding entry_whole how_many
    entry_whole_lem none = ⊎_elim (eqb-true _ _) (λ e. absurd (short e)) (true_or_false (entry_whole s t u i j))
      where
        short : entry_whole s t u i j ≡ false → ⊥
        short e =
            let l = entry_fewer s t S u i j nu hi hj e in
            let n = size_is_length s t S u i j nu hi hj in
            let held : (k : ℕ) → k < node_count s → qualifies s u i j (k + 1) ≡ true → holds (depth s) T i j (k + 1) ≡ true = λ k h q.
            ⊎_elim (λ h. h) (λ f. absurd (omega (arith, l, n, f)))
            (no_room_cases (depth s) T i j (k + 1) (none (k + 1) (record { low = omega arith; high = omega (arith, h) }) q)) in
            let few = count_most (node_count s) (entry_size (depth s) T i j) (node (qualifies s u i j)) (λ k. place (depth s) T i j (k + 1))
            (λ k h q. place_before (depth s) T i j gapless (k + 1) (omega arith) (held k h q))
            (λ k m h g p q e. let w = same_place (depth s) T i j (k + 1) (m + 1) (held k h p) (held m g q) e in omega (arith, w)) in
            omega (arith, l, n, few)

  -- at every level up to the common suffix of two nodes
  abbrev pub Roomless : Type 0
  Roomless = (u z i : ℕ) → IsNode s u → IsNode s z → i ≤ suffix_of s u z → i < digits s → NoRoom s (table_of t u) z i

  pub whole_no_room : Whole s t → Roomless
  whole_no_room w u z i nu nz low hi =
      let hj = valid_digit (base s) (digits s) (id_of s z) i (S.ids z nz) hi in
      whole_entry u i (digit_of (id_of s z) i) nu hi hj (w u i (digit_of (id_of s z) i) nu hi hj) z nz
      (qualified_of (digits s) (id_of s u) (id_of s z) i (digit_of (id_of s z) i) low refl)

  -- and so where a lookup to z is at u
  pub whole_hop : Whole s t → (u z : ℕ) → IsNode s u → IsNode s z → u ≢ z → NoRoom s (table_of t u) z (suffix_of s u z)
  whole_hop w u z nu nz ne = whole_no_room w u z (suffix_of s u z) nu nz (le_refl (suffix_of s u z)) (suffix_below s t S u z nu nz (λ e. ne (sym e)))

  pub no_room_whole : Roomless → Whole s t
  no_room_whole none u i j nu hi hj =
      entry_whole_lem u i j nu hi hj
      (λ z nz q.
      subst (λ (j : ℕ). room_for (depth s) (table_of t u) i j z ≡ false) (qualified_digit (id_of s u) (id_of s z) i j q)
      (none u z i nu nz (qualified_suffix (digits s) (id_of s u) (id_of s z) i j (omega (arith, hi)) q) hi))

  -- so a network of one node is whole
  pub single_whole : ((u z : ℕ) → IsNode s u → IsNode s z → u ≡ z) → Whole s t
  single_whole one =
      no_room_whole (λ u z i nu nz low hi. subst (λ (z : ℕ). NoRoom s (table_of t u) z i) (one u z nu nz) (own_no_room u i nu hi))
