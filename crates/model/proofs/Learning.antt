-- Laws of learning: a learned node is appended where it may be, and nothing else changes. Assumes nothing.
use Prim.Native.Nat.{ℕ, suc, ◌≤◌, ◌<◌}
use mathlib.Core.Path.{◌≡◌, refl, ap, ap₂}
use mathlib.Core.Logic.{◌≢◌, ◌⊎◌, inl, inr, ⊎_elim}
use mathlib.Core.Bool.{Bool, true, false, cond, ◌&&◌, ◌||◌}
use mathlib.Core.List.{List}
use lib.Dec.{leb, eqb}
use lib.ListN.{get_or}
use borrow.Author.Tests.{leb-true, ltb-true, eqb-false, ne_eqb, not-true}
use Rattle.model.specs.Ids.{digit_of}
use Rattle.model.specs.Memory.{depth, id_of}
use Rattle.model.specs.Tables.{entry_size, holds, append}
use Rattle.model.specs.Nodes.{suffix_of}
use Rattle.model.specs.Learning.{floor_of, room_for, learn_at, learn, learn_place, learn_table}
use Rattle.model.proofs.Bools.{true_or_false, parts}
use Rattle.model.proofs.Loops.{each_keeps}
use Rattle.model.proofs.Tables.{Grows, grows_refl, grows_trans, append_grows}

-- learning u at level i appended it
pub record Appended (s : List ℕ) (u i : ℕ) (T : List ℕ) : Type 0 where
  pub floor : floor_of s u ≤ i
  pub absent : holds (depth s) T i (digit_of (id_of s u) i) u ≡ false
  pub room : entry_size (depth s) T i (digit_of (id_of s u) i) < depth s
  pub is : learn_at s u i T ≡ append (depth s) T i (digit_of (id_of s u) i) u

module _ (s : List ℕ) (u i : ℕ) (T : List ℕ) where
  test : Bool
  test = leb (floor_of s u) i && room_for (depth s) T i (digit_of (id_of s u) i) u

  -- it appended u, or it changed nothing
  pub learn_at_cases : Appended s u i T ⊎ (learn_at s u i T ≡ T)
  unfolding learn_at test room_for
  learn_at_cases = go (true_or_false test)
    where
      went : (b : Bool) → test ≡ b → learn_at s u i T ≡ cond b (append (depth s) T i (digit_of (id_of s u) i) u) T
      went b e = ap (λ (b : Bool). cond b (append (depth s) T i (digit_of (id_of s u) i) u) T) e

      go : (test ≡ true) ⊎ (test ≡ false) → Appended s u i T ⊎ (learn_at s u i T ≡ T)
      go (inl e) = inl record {
        floor = leb-true (floor_of s u) i (search parts);
        absent = not-true _ (search parts);
        room = ltb-true _ (depth s) (search parts);
        is = went true e;
      }
      go (inr e) = inr (went false e)

  pub learn_at_grows : Grows T (learn_at s u i T)
  learn_at_grows = ⊎_elim (λ a. rw a.is (append_grows (depth s) T i (digit_of (id_of s u) i) u a.room)) (λ e. rw e (grows_refl T)) learn_at_cases

module _ (s : List ℕ) (x u : ℕ) (T : List ℕ) where
  pub learn_grows : Grows T (learn s x u T)
  unfolding learn
  learn_grows =
      each_keeps (Grows T) (suc (suffix_of s x u)) (learn_at s u) T (grows_refl T)
      (λ i T' l g. grows_trans g (learn_at_grows s u i T'))

-- learning a table, place by place
pub learn_place_cases : (s : List ℕ) (x : ℕ) (Y : List ℕ) (p : ℕ) (T : List ℕ)
    → (learn_place s x Y p T ≡ T) ⊎ ((get_or Y p 0 ≢ 0) × (get_or Y p 0 ≢ x) × (learn_place s x Y p T ≡ learn s x (get_or Y p 0) T))
unfolding learn_place
learn_place_cases s x Y p T = go (true_or_false (eqb u 0)) (true_or_false (eqb u x))
  where
    u : ℕ
    u = get_or Y p 0

    went : (a b : Bool) → eqb u 0 ≡ a → eqb u x ≡ b → learn_place s x Y p T ≡ cond (a || b) T (learn s x u T)
    went a b e q = ap₂ (λ (a b : Bool). cond (a || b) T (learn s x u T)) e q

    go : (eqb u 0 ≡ true) ⊎ (eqb u 0 ≡ false) → (eqb u x ≡ true) ⊎ (eqb u x ≡ false)
        → (learn_place s x Y p T ≡ T) ⊎ ((u ≢ 0) × (u ≢ x) × (learn_place s x Y p T ≡ learn s x u T))
    go (inl a) q = inl (went true (eqb u x) a refl)
    go (inr a) (inl b) = inl (went false true a b)
    go (inr a) (inr b) = inr (eqb-false u 0 a, eqb-false u x b, went false false a b)

-- a node there that is not x itself is learned
pub learn_place_is : (s : List ℕ) (x : ℕ) (Y : List ℕ) (p : ℕ) (T : List ℕ) → get_or Y p 0 ≢ 0 → get_or Y p 0 ≢ x
    → learn_place s x Y p T ≡ learn s x (get_or Y p 0) T
unfolding learn_place
learn_place_is s x Y p T some other = rw (ne_eqb (get_or Y p 0) 0 some, ne_eqb (get_or Y p 0) x other)

pub learn_place_grows : (s : List ℕ) (x : ℕ) (Y : List ℕ) (p : ℕ) (T : List ℕ) → Grows T (learn_place s x Y p T)
learn_place_grows s x Y p T =
    ⊎_elim (λ e. rw e (grows_refl T)) (λ c. rw c.2 (learn_grows s x (get_or Y p 0) T)) (learn_place_cases s x Y p T)

pub learn_table_grows : (s : List ℕ) (x : ℕ) (Y T : List ℕ) → Grows T (learn_table s x Y T)
unfolding learn_table
learn_table_grows s x Y T =
    each_keeps (Grows T) 512 (learn_place s x Y) T (grows_refl T) (λ p T' l g. grows_trans g (learn_place_grows s x Y p T'))
