-- Laws for the code over one node's table. Each is a way on of a function: a turn that goes on, a return, the end of a loop; its premises
-- are what the code has computed and tested there. T is the table of one node. Assumes nothing.
use Prim.Native.Nat.{ℕ, suc, ◌+◌, ◌*◌, ◌≤◌, ◌<◌}
use mathlib.Core.Path.{◌≡◌, refl, sym, ap, ◌∙◌}
use mathlib.Core.Logic.{◌≢◌}
use mathlib.Core.Bool.{Bool, true, false, and-false, or-true}
use mathlib.Core.List.{List}
use native.Mathlib.Nat.{le_antisymm, add-zero}
use native.Mathlib.Numerals.{add-one-le, lt_of_le_of_ne}
use native.Mathlib.Omega.{arith}
use lib.Dec.{ltb}
use lib.ListN.{get_or, set}
use borrow.Author.Tests.{eq-eqb, le-leb, le-ltb, lt-leb, lt-ltb}
use Rattle.model.specs.Loops.{each_below}
use Rattle.model.specs.Ids.{digit_of}
use Rattle.model.specs.Memory.{depth, id_of}
use Rattle.model.specs.Tables.{slot_at, slot_is, entry_size, holds, append, own_slot}
use Rattle.model.specs.Nodes.{suffix_of}
use Rattle.model.specs.Learning.{floor_of, room_for, learn_at, learn, learn_place}
use Rattle.model.proofs.Loops.{any_zero, each_from, each_step, each_ends}
use Rattle.model.proofs.Tables.{size_le, size_least, size_empty}
use Rattle.model.proofs.Learning.{learn_place_is}

-- ---- the slots of an entry, one after the other

module _ (K : ℕ) (T : List ℕ) (i j : ℕ) where
  pub size_goes : (k : ℕ) → k ≤ entry_size K T i j → k < K → slot_at T i j k ≢ 0 → k + 1 ≤ entry_size K T i j
  size_goes k l h nz =
      add-one-le (lt_of_le_of_ne l (λ e. nz (ap (slot_at T i j) e ∙ size_empty K T i j (omega arith))))

  pub size_leaves : (k : ℕ) → k ≤ entry_size K T i j → slot_at T i j k ≡ 0 → k ≡ entry_size K T i j
  size_leaves k l e = le_antisymm l (size_least K T i j k e)

  pub size_ends : (k : ℕ) → k ≤ entry_size K T i j → K ≤ k → K ≡ entry_size K T i j
  size_ends k l g = omega (arith, size_le K T i j)

module _ (T : List ℕ) (i j u : ℕ) where
  pub holds_none : holds 0 T i j u ≡ false
  unfolding holds
  holds_none = any_zero (slot_is T i j u)

-- ---- learning u at level i: K, id and j are what the code has for the depth, u's id and its digit

module _ (s : List ℕ) (u i : ℕ) (T : List ℕ) (K id j : ℕ) where
  pub learn_at_held : (r : Bool) → K ≡ depth s → id ≡ id_of s u → j ≡ digit_of id i → r ≡ holds K T i j u → r ≡ true
      → T ≡ learn_at s u i T
  unfolding learn_at room_for
  learn_at_held r eK eid ej q h =
      let w : holds K T i j u ≡ true = sym q ∙ h in rw (← eK, ← eid, ← ej, w, and-false) refl

  pub learn_at_full : (n : ℕ) → K ≡ depth s → id ≡ id_of s u → j ≡ digit_of id i → n ≡ entry_size K T i j → K ≤ n
      → T ≡ learn_at s u i T
  unfolding learn_at room_for
  learn_at_full n eK eid ej q h =
      let w : ltb (entry_size K T i j) K ≡ false = le-ltb (entry_size K T i j) K (omega arith) in
      rw (← eK, ← eid, ← ej) (simp (w, and-false))

  pub learn_at_room : (r : Bool) (n : ℕ) (T' : List ℕ) → K ≡ depth s → id ≡ id_of s u → j ≡ digit_of id i → floor_of s u ≤ i
      → r ≡ holds K T i j u → r ≡ false → n ≡ entry_size K T i j → n < K → T' ≡ append K T i j u → T' ≡ learn_at s u i T
  unfolding learn_at room_for
  learn_at_room r n T' eK eid ej f q h g l e =
      let w : holds K T i j u ≡ false = sym q ∙ h in
      let v : ltb (entry_size K T i j) K ≡ true = lt-ltb (entry_size K T i j) K (omega arith) in
      e ∙ rw (← eK, ← eid, ← ej) (simp (le-leb _ _ f, w, v))

-- levels below the floor change nothing
learn_at_low : (s : List ℕ) (u i : ℕ) (T : List ℕ) → i < floor_of s u → learn_at s u i T ≡ T
unfolding learn_at
learn_at_low s u i T l = simp (lt-leb (floor_of s u) i l)

-- ---- learning u, level by level from its floor: n is what the code has for the floor, m for the common suffix

module _ (s : List ℕ) (x u : ℕ) (T : List ℕ) (n : ℕ) (floor : n ≡ floor_of s u) where
  -- so the loop starts at the floor
  pub learn_starts : T ≡ each_below n (learn_at s u) T
  learn_starts = each_from n (learn_at s u) T (λ i T' l. learn_at_low s u i T' (omega arith))

  pub learn_none : (m : ℕ) → m ≡ suffix_of s x u → m < n → T ≡ learn s x u T
  unfolding learn
  learn_none m e l = each_from (suc (suffix_of s x u)) (learn_at s u) T (λ i T' h. learn_at_low s u i T' (omega arith))

pub learn_ends : (s : List ℕ) (x u : ℕ) (T : List ℕ) (i m : ℕ) (T' : List ℕ) → T' ≡ each_below i (learn_at s u) T → m ≡ suffix_of s x u
    → i ≤ m + 1 → m < i → T' ≡ learn s x u T
unfolding learn
learn_ends s x u T i m T' e q l g =
    each_ends (suc (suffix_of s x u)) (learn_at s u) T i T' e (omega arith) (omega arith)

-- ---- a place of a table, learned by x

module _ (s : List ℕ) (x : ℕ) (Y : List ℕ) (p : ℕ) (T : List ℕ) where
  pub place_empty : get_or Y p 0 ≡ 0 → T ≡ learn_place s x Y p T
  unfolding learn_place
  place_empty e = simp (eq-eqb (get_or Y p 0) 0 e)

  pub place_own : get_or Y p 0 ≡ x → T ≡ learn_place s x Y p T
  unfolding learn_place
  place_own e = simp (eq-eqb (get_or Y p 0) x e, or-true)

  pub place_learns : (T' : List ℕ) → get_or Y p 0 ≢ 0 → get_or Y p 0 ≢ x → T' ≡ learn s x (get_or Y p 0) T → T' ≡ learn_place s x Y p T
  place_learns T' nz ne e = e ∙ sym (learn_place_is s x Y p T nz ne)

-- ---- the own slots of a new table, level by level; j is what the code has for the digit

pub own_goes : (id x i j : ℕ) (a T : List ℕ) → T ≡ each_below i (own_slot id x) a → j ≡ digit_of id i
    → set T (64 * i + 4 * j) x ≡ each_below (i + 1) (own_slot id x) a
own_goes id x i j a T e q =
    each_step i (own_slot id x) a T (set T (64 * i + 4 * j) x) e (rw (q, add-zero) refl)
