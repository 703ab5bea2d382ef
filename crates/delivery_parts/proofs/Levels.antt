-- Room in the receiver's table: the entry that is read, and the attach level that is found from the common suffix down. Assumes nothing.
use Prim.Native.Nat.{ℕ, suc, ◌+◌, ◌-◌, ◌≤◌, ◌<◌}
use mathlib.Core.Path.{◌≡◌, refl, sym, ap₂, subst, ◌∙◌}
use mathlib.Core.Bool.{Bool, true, false, not, ◌||◌}
use mathlib.Core.List.{List}
use native.Mathlib.Omega.{arith}
use lib.ListN.{length}
use borrow.Author.Tests.{le-ltb, not-true}
use Rattle.std.specs.Prelude.{Option, None, Some, IfNone, IfSome}
use Rattle.model.specs.Ids.{digit_of}
use Rattle.model.specs.Memory.{id_of, table_of}
use Rattle.model.specs.Tables.{first_of}
use Rattle.model.specs.Nodes.{suffix_of}
use Rattle.model.specs.Join.{has_room, room_at_suffix, first_at_suffix, below_or_room, room_from, attach_level}
use Rattle.model.proofs.Loops.{all_false, first_unique}
use Rattle.model.proofs.SoundNodes.{suffix_below}
use Rattle.model.proofs.DeliveryDid.{room_from_lem, first_node}
use Rattle.state.specs.Loaded.{Placed}
use Rattle.tables.specs.Places.{Entry}
use Rattle.tables.specs.NextHop.{number_or_zero}
use Rattle.delivery_parts.specs.Delivers.{Delivers, Level}

-- ---- the entry at the common suffix

-- the first of a full entry is a node
pub first_placed : (s t : List ℕ) (x y v : ℕ) → Delivers s t x y → room_at_suffix s (table_of t y) x y ≡ false
    → v ≡ first_at_suffix s (table_of t y) x y → Placed s v
first_placed s t x y v d f e =
    let n = (first_node s t d.sound x y d.sender d.receiver (record { attached = d.attached; other = d.other }) f).0 in
    record { long = d.sound.long.state; first = omega (arith, n.low, e); last = omega (arith, n.high, e, d.sound.few) }

-- s', n and Y are what the code has for the state, the sender and y's table
module _ (s t : List ℕ) (x y : ℕ) (s' : List ℕ) (n : ℕ) (es : s' ≡ s) (en : n ≡ x) (h : ℕ) (eh : h ≡ suffix_of s' n y) where
  suffix_is : h ≡ suffix_of s x y
  suffix_is = cc

  module _ (d : Delivers s t x y) where
    suffix_under : h < 8
    suffix_under =
        omega (arith, suffix_is, suffix_below s t d.sound x y d.sender d.receiver d.other, d.sound.settings.digits_most)

    -- the level of y's table at the common suffix
    pub level_at : (Y : List ℕ) → length Y ≡ 512 → Level s' Y h
    level_at Y l =
        rw es record { long = omega (arith, l); deep = d.sound.settings.depth_most; level = suffix_under }

    pub entry_at : (Y : List ℕ) (j : ℕ) → length Y ≡ 512 → j < 16 → Entry Y 1 h j
    entry_at Y j l g = record { long = omega (arith, l); depth = omega arith; level = suffix_under; digit = g }

  module _ (Y : List ℕ) (eY : Y ≡ table_of t y) where
    -- what is read at the common suffix is what the book says of E
    pub room_is : (b c : Bool) → b ≡ has_room s' Y n h → b ≡ c → room_at_suffix s (table_of t y) x y ≡ c
    room_is b c e f = let w : h ≡ suffix_of s x y = suffix_is in cc

    first_is : (id j v : ℕ) → id ≡ id_of s' n → j ≡ digit_of id h → v ≡ first_of Y h j → v ≡ first_at_suffix s (table_of t y) x y
    first_is id j v ei ej ev = let w : h ≡ suffix_of s x y = suffix_is in cc

    -- a full entry has a first node, and it is the book's
    module _ (b : Bool) (e : b ≡ has_room s' Y n h) (f : b ≡ false) (id j : ℕ) (ei : id ≡ id_of s' n) (ej : j ≡ digit_of id h) (r : Option ℕ)
        (er : number_or_zero r ≡ first_of Y h j) where
      pub full_none : Delivers s t x y → IfNone r (room_at_suffix s (table_of t y) x y ≡ true)
      full_none d = go r er
        where
          go : (r : Option ℕ) → number_or_zero r ≡ first_of Y h j → IfNone r (room_at_suffix s (table_of t y) x y ≡ true)
          go None q =
              let z : 0 ≡ first_at_suffix s (table_of t y) x y = first_is id j 0 ei ej q in
              absurd (omega (arith, z, (first_placed s t x y _ d (room_is b false e f) refl).first))
          go (Some v) q = tt

      pub full_some : IfSome r (λ v. (room_at_suffix s (table_of t y) x y ≡ false) × (v ≡ first_at_suffix s (table_of t y) x y))
      full_some = go r er
        where
          go : (r : Option ℕ) → number_or_zero r ≡ first_of Y h j
              → IfSome r (λ v. (room_at_suffix s (table_of t y) x y ≡ false) × (v ≡ first_at_suffix s (table_of t y) x y))
          go None q = tt
          go (Some v) q = (room_is b false e f, first_is id j v ei ej q)

-- ---- the attach level, from the common suffix h down

-- k is at most the common suffix, and every level from k to it has room
pub record RoomFrom (s T : List ℕ) (x h k : ℕ) : Type 0 where
  pub within : k ≤ h
  pub room : room_from s T x h k ≡ true

module _ (s T : List ℕ) (x h : ℕ) where
  starts : has_room s T x h ≡ true → RoomFrom s T x h h
  starts e = record { within = omega arith; room = room_from_lem s T x h e }

  first_level : (k : ℕ) → RoomFrom s T x h k → ((m : ℕ) → m < k → room_from s T x h m ≡ false) → k ≡ attach_level s T x h
  unfolding attach_level
  first_level k f g =
      first_unique (suc h) (room_from s T x h) k record { within = omega (arith, f.within); before = g; holds = λ q. f.room }

  -- a full level below k rules every lower one out
  leaves : (k : ℕ) → 0 < k → RoomFrom s T x h k → has_room s T x (k - 1) ≡ false → k ≡ attach_level s T x h
  leaves k some f r =
      first_level k f
      (λ m q.
      all_false (suc h) (below_or_room s T x m) (k - 1) (omega (arith, f.within))
      (ap₂ ◌||◌ (le-ltb (k - 1) m (omega arith)) r))

  pub level_ends : (k : ℕ) → k ≤ 0 → RoomFrom s T x h k → 0 ≡ attach_level s T x h
  level_ends k z f =
      let w : k ≡ 0 = omega arith in
      first_level 0 (subst (RoomFrom s T x h) w f) (λ m q. absurd (omega arith))

-- the same over what the code has read
module _ (s t : List ℕ) (x y : ℕ) (s' : List ℕ) (n : ℕ) (es : s' ≡ s) (en : n ≡ x) (Y : List ℕ) (eY : Y ≡ table_of t y) where
  pub level_starts : (h : ℕ) → h ≡ suffix_of s' n y → room_at_suffix s (table_of t y) x y ≡ true
      → RoomFrom s (table_of t y) x (suffix_of s x y) h
  level_starts h eh b =
      subst (RoomFrom s (table_of t y) x (suffix_of s x y)) (sym (suffix_is s t x y s' n es en h eh))
      (starts s (table_of t y) x (suffix_of s x y) b)

  pub level_leaves : (k : ℕ) (b : Bool) → 0 < k → RoomFrom s (table_of t y) x (suffix_of s x y) k → b ≡ has_room s' Y n (k - 1) → not b ≡ true
      → k - 1 + 1 ≡ attach_level s (table_of t y) x (suffix_of s x y)
  level_leaves k b some f q g =
      let w : k - 1 + 1 ≡ k = omega arith in
      let v : has_room s (table_of t y) x (k - 1) ≡ has_room s' Y n (k - 1) = cc in
      w ∙ leaves s (table_of t y) x (suffix_of s x y) k some f (v ∙ sym q ∙ not-true b g)

  -- the level below k
  pub level_under : (k : ℕ) → Delivers s t x y → length Y ≡ 512 → RoomFrom s (table_of t y) x (suffix_of s x y) k → Level s' Y (k - 1)
  level_under k d l f =
      rw es record {
        long = omega (arith, l);
        deep = d.sound.settings.depth_most;
        level = omega (arith, f.within, suffix_below s t d.sound x y d.sender d.receiver d.other, d.sound.settings.digits_most);
      }
