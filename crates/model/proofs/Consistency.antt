-- Laws of the verdict: a yes says of every entry that it holds min(K, H) nodes; a no gives the first entry that holds
-- fewer. Assumes nothing.
use Prim.Native.Nat.{ℕ, ◌+◌, ◌-◌, ◌≤◌, ◌<◌, min}
use mathlib.Core.Path.{◌≡◌, refl, sym, ap, subst, ◌∙◌}
use mathlib.Core.Logic.{◌⊎◌, inl, inr, ⊎_elim}
use mathlib.Core.Bool.{Bool, true, false, cond, not}
use mathlib.Core.List.{List, [], ◌∷◌}
use lib.ListN.{length, get_or}
use native.Mathlib.Omega.{arith}
use borrow.Author.Tests.{eqb-true, eqb-false, eq-eqb, ne_eqb, not-true}
use Rattle.model.specs.Loops.{first_below, node}
use Rattle.model.specs.Memory.{base, digits, depth, node_count, table_of}
use Rattle.model.specs.Tables.{entry_size}
use Rattle.model.specs.Nodes.{qualifies, any_node}
use Rattle.model.specs.Consistency.{how_many, neighbors, HasSuffix, EntryConsistent, KConsistent, entry_whole, level_whole, node_whole, consistent, node_short, level_short, entry_short, first_short, verdict}
use Rattle.model.proofs.Bools.{true_or_false, not_both}
use Rattle.model.proofs.Loops.{all_at, all_of, all_false, any_found, count_none, first_holds, first_min, first_whole, first_short_lem, first_fails}
use Rattle.model.proofs.Nodes.{nodes_at, nodes_of, no_node_at}
use Rattle.model.proofs.Tables.{size_le}
use Rattle.model.proofs.Status.{IsNode, is_node_lem, is_node_of}
use Rattle.model.proofs.Sound.{Sound}
use Rattle.model.proofs.SoundEntries.{nodes_least, size_is_length, entry_node, entry_qualifies, entry_differ}

length_none : (xs : List ℕ) → length xs ≡ 0 → xs ≡ []
length_none [] e = refl
length_none (x ∷ xs) e = absurd (omega arith)

-- ---- a yes is that every entry of every node is whole

abbrev pub Whole : List ℕ → List ℕ → Type 0
Whole s t =
    (x i j : ℕ) → IsNode s x → i < digits s → j < base s
    → entry_size (depth s) (table_of t x) i j ≡ min (depth s) (how_many s x i j)

module _ (s t : List ℕ) where
  pub consistent_whole : consistent s t ≡ true → Whole s t
  unfolding consistent node_whole level_whole entry_whole
  consistent_whole e x i j n hi hj =
      eqb-true _ _
      (all_at (base s) (entry_whole s t x i)
      (all_at (digits s) (level_whole s t x) (nodes_at (node_count s) (node_whole s t) e x n.low n.high) i hi) j hj)

  pub whole_consistent : Whole s t → consistent s t ≡ true
  unfolding consistent node_whole level_whole entry_whole
  whole_consistent h =
      nodes_of (node_count s) (node_whole s t)
      (λ x a b.
      all_of (digits s) (level_whole s t x)
      (λ i hi.
      all_of (base s) (entry_whole s t x i) (λ j hj. eq-eqb _ _ (h x i j (record { low = a; high = b }) hi hj))))

  -- ---- Definition 3.3 of TR-07-31, both ways, in a sound state

  module _ (x i j : ℕ) where
    -- V_{j·x[i−1]…x[0]} has a node, or none
    some_or_none : ((y : ℕ) × HasSuffix s x i j y) ⊎ ((y : ℕ) → HasSuffix s x i j y → ⊥)
    some_or_none = go (true_or_false (any_node s (qualifies s x i j)))
      where
        go : (any_node s (qualifies s x i j) ≡ true) ⊎ (any_node s (qualifies s x i j) ≡ false)
            → ((y : ℕ) × HasSuffix s x i j y) ⊎ ((y : ℕ) → HasSuffix s x i j y → ⊥)
        go (inl e) =
            let f = any_found (node_count s) (node (qualifies s x i j)) e in
            inl (f.0 + 1, record { node = is_node_of s (f.0 + 1) (record { low = omega arith; high = omega (arith, f.1) }); suffix = f.2 })
        go (inr e) =
            inr (λ y h. let n = is_node_lem s y h.node in not_both _ h.suffix (no_node_at (node_count s) (qualifies s x i j) e y n.low n.high))

    none_many : ((y : ℕ) → HasSuffix s x i j y → ⊥) → how_many s x i j ≡ 0
    unfolding how_many
    none_many none =
        count_none (node_count s) (node (qualifies s x i j))
        (λ k l.
        ⊎_elim
        (λ e. absurd (none (k + 1) (record { node = is_node_of s (k + 1) (record { low = omega arith; high = omega (arith, l) }); suffix = e })))
        (λ e. e) (true_or_false (qualifies s x i j (k + 1))))

  module _ (S : Sound s t) (x i j : ℕ) (nx : IsNode s x) (hi : i < digits s) (hj : j < base s) where
    -- a node of an entry qualifies for it
    entry_within : (k : ℕ) → k < length (neighbors s t x i j) → HasSuffix s x i j (get_or (neighbors s t x i j) k 0)
    entry_within k h = record {
      node = is_node_of s _ (entry_node s t S x i j nx hi hj k h);
      suffix = entry_qualifies s t S x i j nx hi hj k h;
    }

    -- so it holds no more nodes than qualify, for they differ
    few : length (neighbors s t x i j) ≤ how_many s x i j
    unfolding how_many
    few =
        nodes_least s (qualifies s x i j) (length (neighbors s t x i j)) (λ k. get_or (neighbors s t x i j) k 0)
        (λ k h. (entry_node s t S x i j nx hi hj k h, entry_qualifies s t S x i j nx hi hj k h)) (entry_differ s t S x i j nx hi hj)

    length_is : length (neighbors s t x i j) ≡ entry_size (depth s) (table_of t x) i j
    length_is = size_is_length s t S x i j nx hi hj

    abbrev size : ℕ
    size = entry_size (depth s) (table_of t x) i j

    -- an entry that is not whole holds fewer than min(K, H), and one that holds fewer is not whole
    pub entry_fewer : entry_whole s t x i j ≡ false → length (neighbors s t x i j) < min (depth s) (how_many s x i j)
    unfolding entry_whole
    entry_fewer e =
        let ne = eqb-false size (min (depth s) (how_many s x i j)) e in
        omega (arith, ne, few, size_le (depth s) (table_of t x) i j, length_is)

    pub fewer_entry : length (neighbors s t x i j) < min (depth s) (how_many s x i j) → entry_whole s t x i j ≡ false
    unfolding entry_whole
    fewer_entry l = ne_eqb size (min (depth s) (how_many s x i j)) (λ q. omega (arith, q, length_is))

    entry_of : entry_size (depth s) (table_of t x) i j ≡ min (depth s) (how_many s x i j) → EntryConsistent s t x i j
    entry_of w = record {
      filled = λ y h. length_is ∙ w;
      within = entry_within;
      empty = λ none. length_none _ (omega (arith, length_is, w, none_many x i j none));
    }

    entry_back : EntryConsistent s t x i j → entry_size (depth s) (table_of t x) i j ≡ min (depth s) (how_many s x i j)
    entry_back c = go (some_or_none x i j)
      where
        go : ((y : ℕ) × HasSuffix s x i j y) ⊎ ((y : ℕ) → HasSuffix s x i j y → ⊥)
            → entry_size (depth s) (table_of t x) i j ≡ min (depth s) (how_many s x i j)
        go (inl (y, h)) = sym length_is ∙ c.filled y h
        go (inr none) =
            let z : length (neighbors s t x i j) ≡ 0 = ap length (c.empty none) in
            omega (arith, length_is, z, none_many x i j none)

  pub consistent_is : Sound s t → consistent s t ≡ true → KConsistent s t
  unfolding KConsistent
  consistent_is S e x i j n hi hj =
      let nx = is_node_lem s x n in
      entry_of S x i j nx hi hj (consistent_whole e x i j nx hi hj)

  pub is_consistent : Sound s t → KConsistent s t → consistent s t ≡ true
  unfolding KConsistent
  is_consistent S h = whole_consistent (λ x i j nx hi hj. entry_back S x i j nx hi hj (h x i j (is_node_of s x nx) hi hj))

-- ---- the verdict by its parts, as code finds them: k nodes are whole, then level i and digit j are the first short ones

module _ (s t : List ℕ) (k : ℕ) (e : k ≡ first_below (node_count s) (node (node_short s t))) where
  pub verdict_yes : node_count s ≤ k → record { consistent = 1; node = 0; level = 0; digit = 0 } ≡ verdict s t
  unfolding verdict consistent
  verdict_yes l = rw (first_whole (node_count s) (node (node_whole s t)) (omega (arith, e)))

  module _ (l : k < node_count s) (i : ℕ) (ei : i ≡ first_below (digits s) (level_short s t (k + 1))) where
    pub level_found : i < digits s
    unfolding node_whole
    level_found =
        subst (λ (i : ℕ). i < digits s) (sym ei)
        (first_fails (digits s) (level_whole s t (k + 1))
        (not-true _
        (subst (λ (k : ℕ). node_short s t (k + 1) ≡ true) (sym e) (first_holds (node_count s) (node (node_short s t)) (omega (arith, e))))))

    pub verdict_no : (j : ℕ) → j ≡ first_below (base s) (entry_short s t (k + 1) i)
        → record { consistent = 0; node = k + 1; level = i; digit = j } ≡ verdict s t
    unfolding verdict consistent first_short
    verdict_no j ej = rw (first_short_lem (node_count s) (node (node_whole s t)) (omega (arith, e)), ← e, ← ei, ← ej)

-- ---- the verdict that the book gives: a yes, or the first entry that is not whole

pub verdict_is : (s t : List ℕ) (b : Bool) → consistent s t ≡ b
    → verdict s t ≡ cond b (record { consistent = 1; node = 0; level = 0; digit = 0 }) (first_short s t)
unfolding verdict
verdict_is s t b = ap (λ (b : Bool). cond b (record { consistent = 1; node = 0; level = 0; digit = 0 }) (first_short s t))

-- an entry that is not whole
pub record NotWhole (s t : List ℕ) (x i j : ℕ) : Type 0 where
  pub node : IsNode s x
  pub level : i < digits s
  pub digit : j < base s
  pub short : entry_whole s t x i j ≡ false

module _ (s t : List ℕ) where
  -- the first one is one
  pub first_not_whole : consistent s t ≡ false → NotWhole s t (first_short s t).node (first_short s t).level (first_short s t).digit
  unfolding consistent first_short level_whole
  first_not_whole f =
      let k : ℕ = first_below (node_count s) (node (node_short s t)) in
      let l : first_below (node_count s) (node (node_short s t)) < node_count s = first_fails (node_count s) (node (node_whole s t)) f in
      let i : ℕ = first_below (digits s) (level_short s t (k + 1)) in
      let hi : i < digits s = level_found s t k refl l i refl in
      let hj = first_fails (base s) (entry_whole s t (k + 1) i) (not-true _ (first_holds (digits s) (level_short s t (k + 1)) hi)) in
      record {
        node = record { low = omega arith; high = omega (arith, l) };
        level = hi;
        digit = hj;
        short = not-true _ (first_holds (base s) (entry_short s t (k + 1) i) hj);
      }

  -- and none stands before it: by node, then level, then digit
  level_not_whole : {x i j : ℕ} → NotWhole s t x i j → level_whole s t x i ≡ false
  unfolding level_whole
  level_not_whole {x} {i} {j} w = all_false (base s) (entry_whole s t x i) j w.digit w.short

  pub first_node_least : {x i j : ℕ} → NotWhole s t x i j → (first_short s t).node ≤ x
  unfolding first_short node_whole
  first_node_least {x} {i} {j} w =
      let e : x ≡ x - 1 + 1 = omega (arith, w.node.low) in
      omega (
        arith,
        e,
        first_min (node_count s) (node (node_short s t)) (x - 1)
            (subst (λ (x : ℕ). node_short s t x ≡ true) e (ap not (all_false (digits s) (level_whole s t x) i w.level (level_not_whole w)))),
      )

  pub first_level_least : {i j : ℕ} → NotWhole s t (first_short s t).node i j → (first_short s t).level ≤ i
  unfolding first_short
  first_level_least {i} w = first_min (digits s) (level_short s t (first_short s t).node) i (ap not (level_not_whole w))

  pub first_digit_least : {j : ℕ} → NotWhole s t (first_short s t).node (first_short s t).level j → (first_short s t).digit ≤ j
  unfolding first_short
  first_digit_least {j} w =
      first_min (base s) (entry_short s t (first_short s t).node (first_short s t).level) j (ap not w.short)
