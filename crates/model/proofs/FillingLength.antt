-- Filling: an addition changes its own entry alone. So as many are made as the entries are short, and afterwards each entry holds the nodes that it had and
-- behind them the neighbours that are listed for it. Assumes nothing.
use Prim.Native.Nat.{ℕ, suc, ◌+◌, ◌-◌, ◌*◌, ◌/◌, ◌≤◌, ◌<◌, min}
use mathlib.Core.Path.{◌≡◌, refl, sym, ap, ap₂, subst, subst₃, ◌∙◌}
use mathlib.Core.Bool.{Bool, true, false, cond, ◌&&◌}
use mathlib.Core.List.{List, [], ◌∷◌, ◌++◌, append_assoc, append-nil}
use native.Mathlib.Decide.{ℕ_discrete}
use native.Mathlib.Omega.{arith}
use lib.Dec.{eqb}
use lib.ListN.{length, length-append, get_or}
use borrow.Author.Tests.{eqb-true, eq-eqb}
use Rattle.model.specs.Loops.{sum_below, node, join_below}
use Rattle.model.specs.Memory.{base, digits, depth, node_count, table_start, table_of}
use Rattle.model.specs.Tables.{slot_at, append, entry}
use Rattle.model.specs.Nodes.{sum_nodes}
use Rattle.model.specs.Consistency.{how_many, neighbors}
use Rattle.model.specs.Fill.{Filling, lowest_absent, short_by, added, fill_once, filling, listed_at, listed_for}
use Rattle.model.proofs.Bools.{and_intro, not_both, parts}
use Rattle.model.proofs.Loops.{sum_same, join_same}
use Rattle.model.proofs.Sums.{sum_none, sum_less}
use Rattle.model.proofs.Memory.{table_length, stored_same, stored_other}
use Rattle.model.proofs.Tables.{size_same, append_length, append_other, entry_same, append_entry}
use Rattle.model.proofs.Status.{IsNode}
use Rattle.model.proofs.Sound.{table_fits, Sound}
use Rattle.model.proofs.SoundEntries.{entry_fits}
use Rattle.model.proofs.NoRoom.{gapless}
use Rattle.model.proofs.Filling.{Steady, EntryOf, short_room, once_short, filling_whole, lowest_node, fills_once}
use Rattle.model.proofs.FillingRecords.{steady_keep, more_length, more_before, more_here}

-- how many nodes the entries are short of what they must hold, taken together
unfoldable pub short_sum : List ℕ → List ℕ → ℕ
short_sum s t = sum_nodes s (λ x. sum_below (digits s) (λ i. sum_below (base s) (short_by s t x i)))

-- ---- one addition

-- what an addition of y to entry (i, j) of x lists for entry (i', j') of x'
abbrev listed : ℕ → ℕ → ℕ → ℕ → ℕ → ℕ → ℕ → List ℕ
listed x i j y x' i' j' = cond (eqb x x' && (eqb i i' && eqb j j')) (y ∷ []) []

module _ (s : List ℕ) (f : Filling) (w : Steady s f.tables) (x i j : ℕ) (e : EntryOf s x i j) (short : 1 ≤ short_by s f.tables x i j) where
  abbrev y : ℕ
  y = lowest_absent s f.tables x i j

  abbrev T : List ℕ
  T = table_of f.tables x

  abbrev g : Filling
  g = added s x i j (lowest_absent s f.tables x i j) f

  fits : table_start x + 512 ≤ length f.tables
  fits = table_fits s f.tables w.sound x e.node

  long : length (append (depth s) T i j y) ≡ 512
  long = append_length (depth s) T i j y ∙ table_length f.tables x fits

  own_table : table_of (added s x i j (lowest_absent s f.tables x i j) f).tables x ≡ append (depth s) T i j y
  unfolding added
  own_table = stored_same f.tables x (append (depth s) T i j y) long fits

  -- another entry has the same slots
  other_slots : (x' i' j' : ℕ) → EntryOf s x' i' j' → (x' ≡ x → i' ≡ i → j' ≡ j → ⊥) → (k : ℕ) → k < depth s
      → slot_at (table_of g.tables x') i' j' k ≡ slot_at (table_of f.tables x') i' j' k
  unfolding added
  other_slots x' i' j' e' other k l = go (ℕ_discrete x' x)
    where
      go : Dec (x' ≡ x) → slot_at (table_of g.tables x') i' j' k ≡ slot_at (table_of f.tables x') i' j' k
      go (yes q) =
          subst (λ (x' : ℕ). slot_at (table_of g.tables x') i' j' k ≡ slot_at (table_of f.tables x') i' j' k) (sym q)
          (ap (λ (U : List ℕ). slot_at U i' j' k) own_table
          ∙ append_other (depth s) T i j y w.sound.settings.depth_most (omega (arith, e.digit, w.sound.settings.base_most))
          (omega (arith, e'.digit, w.sound.settings.base_most)) (short_room s f.tables w x i j e short) (other q) k l)
      go (no q) =
          ap (λ (U : List ℕ). slot_at U i' j' k)
          (stored_other f.tables x (append (depth s) T i j y) long fits x' e.node.low e'.node.low q (table_fits s f.tables w.sound x' e'.node))

  -- so it is short by as many
  other_short : (x' i' j' : ℕ) → EntryOf s x' i' j' → (x' ≡ x → i' ≡ i → j' ≡ j → ⊥) → short_by s g.tables x' i' j' ≡ short_by s f.tables x' i' j'
  unfolding short_by
  other_short x' i' j' e' other =
      ap (λ (n : ℕ). min (depth s) (how_many s x' i' j') - n)
      (size_same (depth s) (table_of g.tables x') (table_of f.tables x') i' j' (other_slots x' i' j' e' other))

  -- and all together are short by one less
  sum_short : short_sum s g.tables + 1 ≡ short_sum s f.tables
  unfolding short_sum fill_once
  sum_short =
      let p : x - 1 + 1 ≡ x = omega (arith, e.node.low) in
      sum_less (node_count s) (node (levels g.tables)) (node (levels f.tables)) (x - 1) (omega (arith, e.node.low, e.node.high))
      (subst (λ (x : ℕ). levels g.tables x + 1 ≡ levels f.tables x) (sym p) in_node)
      (λ m l ne.
      let n : IsNode s (m + 1) = record { low = omega arith; high = omega (arith, l) } in
      sum_same (digits s) _ _ (λ i' hi.
      sum_same (base s) _ _ (λ j' hj. other_short (m + 1) i' j' (record { node = n; level = hi; digit = hj }) (λ q. absurd (ne (omega (arith, q)))))))
    where
      levels : List ℕ → ℕ → ℕ
      levels t x = sum_below (digits s) (λ i. sum_below (base s) (short_by s t x i))

      in_level : sum_below (base s) (short_by s g.tables x i) + 1 ≡ sum_below (base s) (short_by s f.tables x i)
      in_level = sum_less (base s) (short_by s g.tables x i) (short_by s f.tables x i) j e.digit (once_short s f w x i j e short 0)
          (λ m l ne. other_short x i m (record { node = e.node; level = e.level; digit = l }) (λ a b c. ne c))

      in_node : levels g.tables x + 1 ≡ levels f.tables x
      in_node = sum_less (digits s) (λ i. sum_below (base s) (short_by s g.tables x i)) (λ i. sum_below (base s) (short_by s f.tables x i)) i e.level in_level
          (λ m l ne. sum_same (base s) _ _ (λ j' hj. other_short x m j' (record { node = e.node; level = l; digit = hj }) (λ a b c. ne b)))

  after : Sound s g.tables
  unfolding fill_once
  after = (fills_once s f w x i j e short 0).steady.sound

  -- its own entry has the node behind the others
  own_gains : neighbors s g.tables x i j ≡ neighbors s f.tables x i j ++ (y ∷ [])
  own_gains =
      ap (λ (U : List ℕ). entry (depth s) U i j) own_table
      ∙ append_entry (depth s) T i j y (gapless s f.tables w.sound x i j e.node e.level e.digit)
      (entry_fits s f.tables w.sound x i j e.node e.level e.digit) (short_room s f.tables w x i j e short)
      (λ z. omega (arith, z, (lowest_node s f.tables w x i j e short).low))

  -- and another entry has none more
  entry_gains : (x' i' j' : ℕ) → EntryOf s x' i' j'
      → neighbors s g.tables x' i' j' ≡ neighbors s f.tables x' i' j' ++ listed x i j y x' i' j'
  entry_gains x' i' j' e' = go (eqb x x' && (eqb i i' && eqb j j')) refl
    where
      go : (b : Bool) → (eqb x x' && (eqb i i' && eqb j j')) ≡ b
          → neighbors s g.tables x' i' j' ≡ neighbors s f.tables x' i' j' ++ cond b (y ∷ []) []
      go true q =
          subst₃ (λ (x' i' j' : ℕ). neighbors s g.tables x' i' j' ≡ neighbors s f.tables x' i' j' ++ (y ∷ []))
          (eqb-true x x' (search parts)) (eqb-true i i' (search parts)) (eqb-true j j' (search parts)) own_gains
      go false q =
          entry_same (depth s) (table_of g.tables x') (table_of f.tables x') i' j'
          (entry_fits s g.tables after x' i' j' e'.node e'.level e'.digit)
          (entry_fits s f.tables w.sound x' i' j' e'.node e'.level e'.digit) (other_slots x' i' j' e' other)
          ∙ sym (append-nil (neighbors s f.tables x' i' j'))
        where
          other : x' ≡ x → i' ≡ i → j' ≡ j → ⊥
          other a b c =
              not_both (eqb x x' && (eqb i i' && eqb j j'))
              (and_intro _ _ (eq-eqb x x' (sym a)) (and_intro _ _ (eq-eqb i i' (sym b)) (eq-eqb j j' (sym c)))) q

-- ---- the length of the list

-- in the end no entry is short
filling_short : (s t : List ℕ) → Steady s t → short_sum s (filling s t).tables ≡ 0
unfolding short_sum short_by
filling_short s t w =
    sum_none (node_count s) _ (λ y hy. sum_none (digits s) _ (λ i hi. sum_none (base s) _ (λ j hj.
    omega (arith, filling_whole s t w (y + 1) i j (record { low = omega arith; high = omega (arith, hy) }) hi hj))))

pub filling_length : (s t : List ℕ) → Steady s t → length (filling s t).list ≡ 4 * short_sum s t
unfolding added
filling_length s t w =
    let e : length (filling s t).list + 4 * short_sum s (filling s t).tables ≡ 4 * short_sum s t =
    steady_keep s (λ f. length f.list + 4 * short_sum s f.tables ≡ 4 * short_sum s t)
    (λ x i j f e w short q.
    omega (arith, q, sum_short s f w x i j e short, length-append f.list (x ∷ i ∷ j ∷ lowest_absent s f.tables x i j ∷ []))) t w (omega arith) in
    omega (arith, e, filling_short s t w)

-- ---- the entries afterwards

-- what a record more lists
listed_more : (list : List ℕ) (n : ℕ) → length list ≡ 4 * n → (x i j y x' i' j' : ℕ)
    → listed_for (list ++ (x ∷ i ∷ j ∷ y ∷ [])) x' i' j' ≡ listed_for list x' i' j' ++ listed x i j y x' i' j'
unfolding listed_for listed_at join_below
listed_more list n long x i j y x' i' j' =
    let c : length list / 4 ≡ n = omega arith in
    let d : length longer / 4 ≡ suc n = omega (arith, more_length list n long x i j y) in
    ap (λ (m : ℕ). join_below m (listed_at longer x' i' j')) d
    ∙ ap₂ ◌++◌ (join_same n (listed_at longer x' i' j') (listed_at list x' i' j') before ∙ ap (λ (m : ℕ). join_below m (listed_at list x' i' j')) (sym c)) here
  where
    longer : List ℕ
    longer = list ++ (x ∷ i ∷ j ∷ y ∷ [])

    at : (p : ℕ) → p < 4 * n → get_or longer p 0 ≡ get_or list p 0
    at = more_before list n long x i j y

    at_end : (k p : ℕ) → p ≡ 4 * n + k → get_or longer p 0 ≡ get_or (x ∷ i ∷ j ∷ y ∷ []) k 0
    at_end = more_here list n long x i j y

    before : (r : ℕ) → r < n → listed_at longer x' i' j' r ≡ listed_at list x' i' j' r
    before r h = cc (at (4 * r) (omega arith), at (4 * r + 1) (omega arith), at (4 * r + 2) (omega arith), at (4 * r + 3) (omega arith))

    here : listed_at longer x' i' j' n ≡ listed x i j y x' i' j'
    here = cc (at_end 0 (4 * n) (omega arith), at_end 1 (4 * n + 1) refl, at_end 2 (4 * n + 2) refl, at_end 3 (4 * n + 3) refl)

-- the list has n records, and each entry the listed nodes behind its first ones
record Gained (s t : List ℕ) (n : ℕ) (f : Filling) : Type 0 where
  long : length f.list ≡ 4 * n
  entries : (x i j : ℕ) → EntryOf s x i j → neighbors s f.tables x i j ≡ neighbors s t x i j ++ listed_for f.list x i j

pub filling_entries : (s t : List ℕ) → Steady s t → (x i j : ℕ) → EntryOf s x i j
    → neighbors s (filling s t).tables x i j ≡ neighbors s t x i j ++ listed_for (filling s t).list x i j
unfolding added listed_for join_below
filling_entries s t w =
    (steady_keep s (λ f. (n : ℕ) × Gained s t n f)
    (λ x i j f e w short c. (
      suc c.0,
      record {
        long = more_length f.list c.0 c.1.long x i j _;
        entries = λ x' i' j' e'.
            entry_gains s f w x i j e short x' i' j' e'
            ∙ ap (λ (l : List ℕ). l ++ listed x i j (lowest_absent s f.tables x i j) x' i' j') (c.1.entries x' i' j' e')
            ∙ append_assoc (neighbors s t x' i' j') (listed_for f.list x' i' j') _
            ∙ ap (λ (l : List ℕ). neighbors s t x' i' j' ++ l) (sym (listed_more f.list c.0 c.1.long x i j _ x' i' j'));
      },
    )) t w (0, record { long = refl; entries = λ x i j e. sym (append-nil (neighbors s t x i j)) })).1.entries
