-- Laws of an entry of a table: how many stand in it, what appending adds, and that appending changes no other place. T is the table of
-- one node, K at most 4. Assumes nothing.
use Prim.Native.Nat.{ℕ, suc, ◌+◌, ◌≤◌, ◌<◌}
use mathlib.Core.Path.{◌≡◌, refl, sym, ap, subst, ◌∙◌}
use mathlib.Core.Logic.{◌≢◌}
use mathlib.Core.Bool.{false}
use mathlib.Core.List.{List, [], ◌∷◌, ◌++◌}
use native.Mathlib.Decide.{dec_lt, le_ind}
use native.Mathlib.Numerals.{add-one}
use native.Mathlib.Omega.{arith}
use lib.Dec.{eqb}
use lib.ListN.{length, get_or, set, take, drop, length-set, length-drop, get_or-eq_default}
use lib.Seq.{ext_get_or, get_or-set_same, get_or-set_other, drop-set-add, take-suc-set}
use borrow.Author.Tests.{eqb-true, eqb-false, eq-eqb, ne_eqb}
use Rattle.model.specs.Tables.{slot_place, slot_at, slot_is, first_of, entry_size, entry, holds, append}
use Rattle.model.proofs.Splice.{part_length, part_at}
use Rattle.model.proofs.Loops.{first_le, first_before, first_holds, first_unique, first_min, first_same, any_at, any_false, le_of_not_lt}

-- ---- how many stand in an entry

module _ (K : ℕ) (T : List ℕ) (i j : ℕ) where
  pub size_le : entry_size K T i j ≤ K
  unfolding entry_size
  size_le = first_le K (slot_is T i j 0)

  -- a slot before the size is filled
  pub size_filled : (k : ℕ) → k < entry_size K T i j → slot_at T i j k ≢ 0
  unfolding entry_size
  size_filled k h = eqb-false (slot_at T i j k) 0 (first_before K (slot_is T i j 0) k h)

  -- the slot at the size is empty
  pub size_empty : entry_size K T i j < K → slot_at T i j (entry_size K T i j) ≡ 0
  unfolding entry_size
  size_empty h = eqb-true (slot_at T i j (entry_size K T i j)) 0 (first_holds K (slot_is T i j 0) h)

  -- no empty slot stands before the size
  pub size_least : (k : ℕ) → slot_at T i j k ≡ 0 → entry_size K T i j ≤ k
  unfolding entry_size
  size_least k e = first_min K (slot_is T i j 0) k (eq-eqb (slot_at T i j k) 0 e)

  -- the size is the number with filled slots before it and an empty one at it
  pub size_is : (k : ℕ) → k ≤ K → ((m : ℕ) → m < k → slot_at T i j m ≢ 0) → (k < K → slot_at T i j k ≡ 0) → k ≡ entry_size K T i j
  unfolding entry_size
  size_is k h f g =
      first_unique K (slot_is T i j 0) k
      (record {
        within = h;
        before = λ m l. ne_eqb (slot_at T i j m) 0 (f m l);
        holds = λ l. eq-eqb (slot_at T i j k) 0 (g l);
      })

  -- a node that the entry does not hold is in none of its slots
  pub holds_not : (u : ℕ) → holds K T i j u ≡ false → (k : ℕ) → k < K → slot_at T i j k ≢ u
  unfolding holds
  holds_not u e k h = eqb-false (slot_at T i j k) u (any_at K (slot_is T i j u) e k h)

-- a node in none of the slots is not held
pub holds_none : (K : ℕ) (T : List ℕ) (i j u : ℕ) → ((k : ℕ) → k < K → slot_at T i j k ≢ u) → holds K T i j u ≡ false
unfolding holds
holds_none K T i j u h = any_false K (slot_is T i j u) (λ k l. ne_eqb (slot_at T i j k) u (h k l))

-- two tables with the same slots in an entry have as many there
pub size_same : (K : ℕ) (T T' : List ℕ) (i j : ℕ) → ((k : ℕ) → k < K → slot_at T i j k ≡ slot_at T' i j k)
    → entry_size K T i j ≡ entry_size K T' i j
unfolding entry_size
size_same K T T' i j h = first_same K (slot_is T i j 0) (slot_is T' i j 0) (λ k l. ap (λ (v : ℕ). eqb v 0) (h k l))

-- ---- an entry as a list

module _ (K : ℕ) (T : List ℕ) (i j : ℕ) (fits : slot_place i j K ≤ length T) where
  pub entry_length : length (entry K T i j) ≡ entry_size K T i j
  unfolding entry
  entry_length = part_length (slot_place i j 0) (entry_size K T i j) T (omega (arith, size_le K T i j))

  pub entry_at : (k : ℕ) → k < entry_size K T i j → get_or (entry K T i j) k 0 ≡ slot_at T i j k
  unfolding entry
  entry_at k h =
      let w : slot_place i j 0 + k ≡ slot_place i j k = omega arith in
      part_at (slot_place i j 0) (entry_size K T i j) T (omega (arith, size_le K T i j)) k h ∙ ap (λ (p : ℕ). get_or T p 0) w

  -- its first node is what stands in slot 0
  pub entry_first : 1 ≤ K → get_or (entry K T i j) 0 0 ≡ first_of T i j
  entry_first some = go (dec_lt 0 (entry_size K T i j))
    where
      go : Dec (0 < entry_size K T i j) → get_or (entry K T i j) 0 0 ≡ first_of T i j
      go (yes l) = entry_at 0 l
      go (no g) =
          let e : entry_size K T i j ≡ 0 = omega arith in
          get_or-eq_default (entry K T i j) 0 (omega (arith, entry_length))
          ∙ sym (subst (λ (n : ℕ). slot_at T i j n ≡ 0) e (size_empty K T i j (omega arith)))

-- an entry whose first slot is empty has none
pub entry_none : (K : ℕ) (T : List ℕ) (i j : ℕ) → slot_at T i j 0 ≡ 0 → entry K T i j ≡ []
unfolding entry
entry_none K T i j e =
    let w : entry_size K T i j ≡ 0 = omega (arith, size_least K T i j 0 e) in
    ap (λ (n : ℕ). take n (drop (slot_place i j 0) T)) w

-- two tables with the same slots in an entry have the same nodes there
pub entry_same : (K : ℕ) (T T' : List ℕ) (i j : ℕ) → slot_place i j K ≤ length T → slot_place i j K ≤ length T'
    → ((k : ℕ) → k < K → slot_at T i j k ≡ slot_at T' i j k) → entry K T i j ≡ entry K T' i j
entry_same K T T' i j f g h =
    let w : entry_size K T i j ≡ entry_size K T' i j = size_same K T T' i j h in
    let l : length (entry K T i j) ≡ entry_size K T i j = entry_length K T i j f in
    let m : entry_size K T i j ≤ K = size_le K T i j in
    ext_get_or 0 (entry K T i j) (entry K T' i j) (l ∙ w ∙ sym (entry_length K T' i j g))
    (λ k q. entry_at K T i j f k (omega arith) ∙ h k (omega arith) ∙ sym (entry_at K T' i j g k (omega arith)))

-- ---- an entry without a gap

-- behind an empty slot every slot is empty
abbrev pub GapFree : ℕ → List ℕ → ℕ → ℕ → Type 0
GapFree K T i j = (k : ℕ) → k + 1 < K → slot_at T i j k ≡ 0 → slot_at T i j (k + 1) ≡ 0

-- its size is where it ends
pub gap_rest : (K : ℕ) (T : List ℕ) (i j : ℕ) → GapFree K T i j → (k : ℕ) → entry_size K T i j ≤ k → k < K → slot_at T i j k ≡ 0
gap_rest K T i j g k l h =
    le_ind (λ (m : ℕ). m < K → slot_at T i j m ≡ 0) (size_empty K T i j)
    (λ m q e w. rw (add-one m) at (g m (omega (arith, w)) (e (omega (arith, w))))) k l h

-- ---- appending

module _ (K : ℕ) (T : List ℕ) (i j u : ℕ) where
  pub append_length : length (append K T i j u) ≡ length T
  unfolding append
  append_length = length-set T (slot_place i j (entry_size K T i j)) u

  -- the node stands where the entry ended
  pub append_here : slot_place i j (entry_size K T i j) < length T → slot_at (append K T i j u) i j (entry_size K T i j) ≡ u
  unfolding append
  append_here h = get_or-set_same T (slot_place i j (entry_size K T i j)) u 0 h

  -- every other place is as it was
  pub append_away : (p : ℕ) → p ≢ slot_place i j (entry_size K T i j) → get_or (append K T i j u) p 0 ≡ get_or T p 0
  unfolding append
  append_away p h = get_or-set_other T (slot_place i j (entry_size K T i j)) p u 0 h

  -- the entry has one node more
  pub append_size : GapFree K T i j → slot_place i j K ≤ length T → entry_size K T i j < K → u ≢ 0
      → entry_size K (append K T i j u) i j ≡ entry_size K T i j + 1
  append_size g f h nz =
      sym (size_is K (append K T i j u) i j (entry_size K T i j + 1) (omega arith) filled (λ l. empty (omega arith)))
    where
      filled : (m : ℕ) → m < entry_size K T i j + 1 → slot_at (append K T i j u) i j m ≢ 0
      filled m l e = last (dec_lt m (entry_size K T i j))
        where
          last : Dec (m < entry_size K T i j) → ⊥
          last (yes q) = size_filled K T i j m q (sym (append_away (slot_place i j m) (omega arith)) ∙ e)
          last (no q) =
              let w : m ≡ entry_size K T i j = omega arith in
              nz (sym (append_here (omega arith)) ∙ ap (slot_at (append K T i j u) i j) (sym w) ∙ e)

      empty : entry_size K T i j + 1 < K → slot_at (append K T i j u) i j (entry_size K T i j + 1) ≡ 0
      empty l =
          append_away (slot_place i j (entry_size K T i j + 1)) (omega arith)
          ∙ gap_rest K T i j g (entry_size K T i j + 1) (omega arith) l

  -- as a list: the node behind the others
  pub append_entry : GapFree K T i j → slot_place i j K ≤ length T → entry_size K T i j < K → u ≢ 0
      → entry K (append K T i j u) i j ≡ entry K T i j ++ (u ∷ [])
  unfolding entry append
  append_entry g f h nz =
      let a : ℕ = slot_place i j 0 in
      let n : ℕ = entry_size K T i j in
      let w : slot_place i j n ≡ a + n = omega arith in
      ap (λ (m : ℕ). take m (drop a (set T (slot_place i j n) u))) (append_size g f h nz ∙ add-one n)
      ∙ ap (λ (p : ℕ). take (suc n) (drop a (set T p u))) w
      ∙ ap (take (suc n)) (drop-set-add a T n u)
      ∙ take-suc-set (drop a T) n u (simp length-drop (omega arith))

  -- another entry has the same nodes
  pub append_other : {i' j' : ℕ} → K ≤ 4 → j < 16 → j' < 16 → entry_size K T i j < K → (i' ≡ i → j' ≡ j → ⊥)
      → (k : ℕ) → k < K → slot_at (append K T i j u) i' j' k ≡ slot_at T i' j' k
  append_other {i'} {j'} hK hj hj' h e k l =
      append_away (slot_place i' j' k) (λ q. e (omega arith) (omega arith))

  -- as a list too
  pub append_apart : {i' j' : ℕ} → K ≤ 4 → j < 16 → j' < 16 → entry_size K T i j < K → slot_place i' j' K ≤ length T
      → (i' ≡ i → j' ≡ j → ⊥) → entry K (append K T i j u) i' j' ≡ entry K T i' j'
  append_apart {i'} {j'} hK hj hj' h f e =
      entry_same K (append K T i j u) T i' j' (omega (arith, append_length)) f (append_other hK hj hj' h e)

-- ---- a table that only gains nodes: no filled place changes

pub record Grows (T T' : List ℕ) : Type 0 where
  pub long : length T' ≡ length T
  pub kept : (p : ℕ) → get_or T p 0 ≢ 0 → get_or T' p 0 ≡ get_or T p 0

pub grows_refl : (T : List ℕ) → Grows T T
grows_refl T = record { long = refl; kept = λ p h. refl }

pub grows_trans : {A B C : List ℕ} → Grows A B → Grows B C → Grows A C
grows_trans f g = record {
  long = g.long ∙ f.long;
  kept = λ p h. g.kept p (λ e. h (sym (f.kept p h) ∙ e)) ∙ f.kept p h;
}

-- appending fills the empty place where the entry ended
pub append_grows : (K : ℕ) (T : List ℕ) (i j u : ℕ) → entry_size K T i j < K → Grows T (append K T i j u)
append_grows K T i j u h = record {
  long = append_length K T i j u;
  kept = λ p f. append_away K T i j u p (λ e. f (ap (λ (q : ℕ). get_or T q 0) e ∙ size_empty K T i j h));
}

-- an entry of it begins with what stood there
module _ (K : ℕ) (T T' : List ℕ) (i j : ℕ) (g : Grows T T') (fits : slot_place i j K ≤ length T) where
  pub grown_size : entry_size K T i j ≤ entry_size K T' i j
  grown_size =
      le_of_not_lt
      (λ l.
      let filled = size_filled K T i j (entry_size K T' i j) l in
      filled (sym (g.kept (slot_place i j (entry_size K T' i j)) filled) ∙ size_empty K T' i j (omega (arith, size_le K T i j))))

  fits' : slot_place i j K ≤ length T'
  fits' = omega (arith, g.long)

  pub grown_longer : length (entry K T i j) ≤ length (entry K T' i j)
  grown_longer = omega (arith, grown_size, entry_length K T i j fits, entry_length K T' i j fits')

  pub grown_begins : (k : ℕ) → k < length (entry K T i j) → get_or (entry K T' i j) k 0 ≡ get_or (entry K T i j) k 0
  grown_begins k h =
      let l : k < entry_size K T i j = omega (arith, entry_length K T i j fits) in
      entry_at K T' i j fits' k (omega (arith, grown_size))
      ∙ g.kept (slot_place i j k) (size_filled K T i j k l)
      ∙ sym (entry_at K T i j fits k l)

  -- and where it was full nothing came
  pub grown_full : length (entry K T i j) ≡ K → entry K T' i j ≡ entry K T i j
  grown_full e =
      let same : length (entry K T' i j) ≡ length (entry K T i j) = omega (arith, grown_longer, entry_length K T' i j fits', size_le K T' i j) in
      ext_get_or 0 (entry K T' i j) (entry K T i j) same (λ k l. grown_begins k (omega arith))
