-- An entry is whole where it lacks nothing, so what lacks a node first is what the book finds first. Assumes nothing.
use Prim.Native.Nat.{ℕ, ◌+◌, ◌-◌, ◌≤◌, ◌<◌, min}
use mathlib.Core.Path.{◌≡◌, refl, sym, ap, subst, ◌∙◌}
use mathlib.Core.Logic.{◌⊎◌, inl, inr}
use mathlib.Core.Bool.{true, false, not}
use mathlib.Core.List.{List}
use native.Mathlib.Omega.{arith}
use lib.Bits.{bit_and}
use lib.ListN.{get_or}
use borrow.Author.Tests.{ne_eqb}
use Rattle.model.specs.Loops.{first_below, node}
use Rattle.model.specs.Memory.{base, digits, depth, node_count, table_of, add_node, set_size}
use Rattle.model.specs.Tables.{entry_size}
use Rattle.model.specs.Consistency as book
use Rattle.model.specs.Consistency.{how_many, entry_whole, level_whole, node_whole, entry_short, level_short, node_short}
use Rattle.model.specs.Fill.{short_by}
use Rattle.model.proofs.Bools.{true_or_false, not_both}
use Rattle.model.proofs.Loops.{le_of_not_lt, all_of, first_holds, first_goes, first_leaves, first_whole, first_short_lem}
use Rattle.model.proofs.Status.{IsNode}
use Rattle.model.proofs.Sound.{Sound}
use Rattle.model.proofs.SoundEntries.{size_is_length}
use Rattle.model.proofs.Consistency.{entry_fewer, verdict_no}
use Rattle.answers.specs.declared.verdict.ShortEntry.{ShortEntry}
use Rattle.consistency.specs.Answer.{FirstShort}
use Rattle.consistency.specs.NodeSets.{place, Having, Sharing}
use Rattle.consistency.proofs.Gathering.{qualify_of}
use Rattle.consistency.proofs.Lacking.{lack_is}
use Rattle.consistency.proofs.Alone.{none_short}

module _ (s t : List ℕ) (S : Sound s t) (x : ℕ) (nx : IsNode s x) where
  module _ (i j : ℕ) (hi : i < digits s) (hj : j < base s) (r : ℕ) (e : r ≡ short_by s t x i j) where
    whole : r ≤ 0 → entry_whole s t x i j ≡ true
    unfolding short_by
    whole z = go (true_or_false (entry_whole s t x i j))
      where
        go : (entry_whole s t x i j ≡ true) ⊎ (entry_whole s t x i j ≡ false) → entry_whole s t x i j ≡ true
        go (inl w) = w
        go (inr f) = absurd (omega (arith, e, entry_fewer s t S x i j nx hi hj f, size_is_length s t S x i j nx hi hj))

    not_short : r ≤ 0 → entry_short s t x i j ≡ false
    not_short z = ap not (whole z)

    is_short : 0 < r → entry_short s t x i j ≡ true
    unfolding short_by entry_whole
    is_short l = ap not (ne_eqb (entry_size (depth s) (table_of t x) i j) (min (depth s) (how_many s x i j)) (λ q. omega (arith, e, q)))

  -- the loop over the digits of level i stands at j: r is lacking, by the set Q of those that qualify
  module _ (H : List ℕ) (i N b K : ℕ) (T : List ℕ) (j Q r : ℕ) (w : Having s (node_count s) H) (sh : Sharing s x i N) (hi : i < digits s) (eb : b ≡ base s)
      (eK : K ≡ depth s) (eT : T ≡ table_of t x) (hj : j < b) (eQ : Q ≡ bit_and N (get_or H (place i j) 0)) (er : r ≡ min K (set_size Q) - entry_size K T i j)
      (l : j ≤ first_below (base s) (entry_short s t x i)) where
    lj : j < base s
    lj = omega arith

    short : r ≡ short_by s t x i j
    short = lack_is s x i j Q (qualify_of s x i N H sh w hi t S b j Q eb hj eQ) t S K T eK eT r er

    pub digit_leaves : 0 < r → j ≡ first_below (base s) (entry_short s t x i)
    digit_leaves h = first_leaves (base s) (entry_short s t x i) j true l (sym (is_short i j hi lj r short h)) refl

    pub digit_goes : r ≤ 0 → j + 1 ≤ first_below (base s) (entry_short s t x i)
    digit_goes h = first_goes (base s) (entry_short s t x i) j false l lj (sym (not_short i j hi lj r short h)) refl

  -- where x is alone above level i, and no level up to i is short, none is
  module _ (i N : ℕ) (sh : Sharing s x (i + 1) N) (e : N ≡ add_node 0 x) where
    above : (m : ℕ) → i < m → m < digits s → level_short s t x m ≡ false
    unfolding level_whole
    above m l hm =
        ap not
        (all_of (base s) (entry_whole s t x m)
        (λ j hj. whole m j hm hj (short_by s t x m j) refl (omega (arith, none_short s x nx i N sh e m j l t S hm))))

    pub alone_whole : i + 1 ≤ first_below (digits s) (level_short s t x) → node_whole s t x ≡ true
    unfolding node_whole
    alone_whole l =
        first_whole (digits s) (level_whole s t x)
        (le_of_not_lt
        (λ h.
        not_both (level_short s t x (first_below (digits s) (level_short s t x))) (first_holds (digits s) (level_short s t x) h)
        (above (first_below (digits s) (level_short s t x)) (omega arith) h)))

-- ---- what the first short entries say

module _ (s t : List ℕ) where
  module _ (x i : ℕ) where
    pub level_is_whole : base s ≤ first_below (base s) (entry_short s t x i) → level_whole s t x i ≡ true
    unfolding level_whole
    level_is_whole = first_whole (base s) (entry_whole s t x i)

    -- level i is the first with an entry that is not whole, that of digit j
    module _ (j : ℕ) (short : (j < base s) × (j ≡ first_below (base s) (entry_short s t x i))) where
      level_is_short : level_short s t x i ≡ true
      unfolding level_whole
      level_is_short =
          ap not (first_short_lem (base s) (entry_whole s t x i) (subst (λ (k : ℕ). k < base s) short.1 short.0))

      pub first_short : i < digits s → i ≤ first_below (digits s) (level_short s t x) → FirstShort s t x (record { node = x; level = i; digit = j })
      first_short h l =
          record { node = refl; within = h; level = first_leaves (digits s) (level_short s t x) i true l (sym level_is_short) refl; digit = short.1 }

    pub level_goes : level_whole s t x i ≡ true → i < digits s → i ≤ first_below (digits s) (level_short s t x)
        → i + 1 ≤ first_below (digits s) (level_short s t x)
    level_goes e h l = first_goes (digits s) (level_short s t x) i false l h (sym (ap not e)) refl

  pub node_is_whole : (x : ℕ) → digits s ≤ first_below (digits s) (level_short s t x) → node_whole s t x ≡ true
  unfolding node_whole
  node_is_whole x = first_whole (digits s) (level_whole s t x)

  module _ (k : ℕ) (h : k < node_count s) (l : k ≤ first_below (node_count s) (node (node_short s t))) where
    pub node_goes : node_whole s t (k + 1) ≡ true → k + 1 ≤ first_below (node_count s) (node (node_short s t))
    node_goes e = first_goes (node_count s) (node (node_short s t)) k false l h (sym (ap not e)) refl

    module _ (e : ShortEntry) (f : FirstShort s t (k + 1) e) where
      node_is_short : node_short s t (k + 1) ≡ true
      unfolding node_whole
      node_is_short =
          ap not (first_short_lem (digits s) (level_whole s t (k + 1)) (subst (λ (i : ℕ). i < digits s) f.level f.within))

      pub verdict_at : record { consistent = 0; node = e.node; level = e.level; digit = e.digit } ≡ book.verdict s t
      verdict_at =
          let first = first_leaves (node_count s) (node (node_short s t)) k true l (sym node_is_short) refl in
          ap (λ (x : ℕ). record { consistent = 0; node = x; level = e.level; digit = e.digit }) f.node
          ∙ verdict_no s t k first h e.level f.level e.digit f.digit
