-- Learning keeps the rules of a table: what is appended is qualified, new, behind the others and in a used place. Assumes nothing.
use Prim.Native.Nat.{ℕ, suc, ◌+◌, ◌-◌, ◌≤◌, ◌<◌}
use mathlib.Core.Path.{◌≡◌, refl, sym, ap, subst, subst₃, ◌∙◌}
use mathlib.Core.Logic.{◌≢◌, ⊎_elim}
use mathlib.Core.Bool.{true, false}
use mathlib.Core.List.{List}
use native.Mathlib.Decide.{ℕ_discrete}
use native.Mathlib.Nat.{le_of_suc-le-suc}
use native.Mathlib.Omega.{arith}
use lib.ListN.{length, get_or}
use Rattle.model.specs.Ids.{valid_id, digit_of}
use Rattle.model.specs.Memory.{base, digits, depth, node_count, id_of}
use Rattle.model.specs.Tables.{slot_place, slot_at, entry_size, holds, append}
use Rattle.model.specs.Nodes.{suffix_of, qualifies}
use Rattle.model.specs.Sound.{may_stand, place_used}
use Rattle.model.specs.Learning.{learn_at, learn, learn_place, learn_table}
use Rattle.model.proofs.Bools.{not_both}
use Rattle.model.proofs.Loops.{each_keeps}
use Rattle.model.proofs.Ids.{InRange, valid_digit, qualified_of}
use Rattle.model.proofs.Tables.{GapFree, gap_rest, size_filled, size_least, holds_not, append_length, append_here, append_away, append_grows, Grows}
use Rattle.model.proofs.Learning.{Appended, learn_at_cases, learn_place_cases}
use Rattle.model.proofs.Sound.{SlotOk, TableOk, slot_used}

-- the rules of a table but for its own entries: what a table keeps while an image is read into it
pub record Entries (s : List ℕ) (x : ℕ) (T : List ℕ) : Type 0 where
  pub slots : (i j k : ℕ) → i < digits s → j < base s → k < depth s → slot_at T i j k ≢ 0 → SlotOk s x T i j k
  pub unused : (p : ℕ) → p < 512 → place_used s p ≡ false → get_or T p 0 ≡ 0

pub entries_of : (s : List ℕ) (x : ℕ) (T : List ℕ) → TableOk s x T → Entries s x T
entries_of s x T ok = record { slots = ok.slots; unused = ok.unused }

-- such entries have no gap
pub gap_free : (s : List ℕ) (x : ℕ) (T : List ℕ) → Entries s x T → (i j : ℕ) → i < digits s → j < base s → GapFree (depth s) T i j
gap_free s x T ok i j hi hj k h e = go (ℕ_discrete (slot_at T i j (k + 1)) 0)
  where
    go : Dec (slot_at T i j (k + 1) ≡ 0) → slot_at T i j (k + 1) ≡ 0
    go (yes q) = q
    go (no q) =
        let w : k + 1 - 1 ≡ k = omega arith in
        absurd ((ok.slots i j (k + 1) hi hj h q).gap (omega arith) (ap (slot_at T i j) w ∙ e))

-- u may be appended to entry (i, j) of x's table T
pub record Addable (s : List ℕ) (x : ℕ) (T : List ℕ) (i j u : ℕ) : Type 0 where
  pub level : i < digits s
  pub digit : j < base s
  pub room : entry_size (depth s) T i j < depth s
  pub first : 1 ≤ u
  pub last : u ≤ node_count s
  pub may : may_stand s x u ≡ true
  pub qual : qualifies s x i j u ≡ true
  pub absent : holds (depth s) T i j u ≡ false

module _ (s : List ℕ) (x : ℕ) (T : List ℕ) (i j u : ℕ) (range : InRange (base s) (digits s) (depth s))
    (long : length T ≡ 512) (ok : Entries s x T) (a : Addable s x T i j u) where
  grows : Grows T (append (depth s) T i j u)
  grows = append_grows (depth s) T i j u a.room

  here : slot_at (append (depth s) T i j u) i j (entry_size (depth s) T i j) ≡ u
  here =
      let hd : digits s ≤ 8 = range.digits_most in
      let hb : base s ≤ 16 = range.base_most in
      let hK : depth s ≤ 4 = range.depth_most in
      append_here (depth s) T i j u (omega (arith, a.level, a.digit, a.room, long))

  -- the new slot keeps the rules
  new_slot : SlotOk s x (append (depth s) T i j u) i j (entry_size (depth s) T i j)
  new_slot = record {
    within = rw here a.last;
    may = rw here a.may;
    qual = rw here a.qual;
    gap =
        λ q.
        let f = size_filled (depth s) T i j (entry_size (depth s) T i j - 1) (omega arith) in
        λ e. f (sym (grows.kept _ f) ∙ e);
    fresh =
        λ e l.
        let f = holds_not (depth s) T i j u a.absent e (omega (arith, a.room)) in
        λ q. f (sym (grows.kept _ (size_filled (depth s) T i j e l)) ∙ q ∙ here);
  }

  -- another filled slot keeps them
  old_slot : (i' j' k : ℕ) → i' < digits s → j' < base s → k < depth s → slot_place i' j' k ≢ slot_place i j (entry_size (depth s) T i j)
      → slot_at (append (depth s) T i j u) i' j' k ≢ 0 → SlotOk s x (append (depth s) T i j u) i' j' k
  old_slot i' j' k hi hj hk ne nz =
      let same : slot_at (append (depth s) T i j u) i' j' k ≡ slot_at T i' j' k = append_away (depth s) T i j u (slot_place i' j' k) ne in
      let f : slot_at T i' j' k ≢ 0 = λ e. nz (same ∙ e) in
      let o : SlotOk s x T i' j' k = ok.slots i' j' k hi hj hk f in
      record {
        within = rw same o.within;
        may = rw same o.may;
        qual = rw same o.qual;
        gap = λ q e. o.gap q (sym (grows.kept _ (o.gap q)) ∙ e);
        fresh =
            λ e l q.
            let g : slot_at T i' j' e ≢ 0 = λ z. f (ahead i' j' e k hi hj l hk z) in
            o.fresh e l (sym (grows.kept _ g) ∙ q ∙ same);
      }
    where
      -- behind an empty slot of T every slot is empty
      ahead : (i' j' e k : ℕ) → i' < digits s → j' < base s → e < k → k < depth s → slot_at T i' j' e ≡ 0 → slot_at T i' j' k ≡ 0
      ahead i' j' e k hi hj l hk z =
          gap_rest (depth s) T i' j' (gap_free s x T ok i' j' hi hj) k
          (omega (arith, size_least (depth s) T i' j' e z)) hk

  pub append_entries : Entries s x (append (depth s) T i j u)
  append_entries = record {
    slots =
        λ i' j' k hi hj hk nz.
        slot i' j' k hi hj hk nz (ℕ_discrete (slot_place i' j' k) (slot_place i j (entry_size (depth s) T i j)));
    unused =
        λ p h e.
        append_away (depth s) T i j u p
        (λ q.
        not_both (place_used s p)
        (ap (place_used s) q ∙ slot_used s range i j (entry_size (depth s) T i j) a.level a.digit a.room) e)
        ∙ ok.unused p h e;
  }
    where
      slot : (i' j' k : ℕ) → i' < digits s → j' < base s → k < depth s → slot_at (append (depth s) T i j u) i' j' k ≢ 0
          → Dec (slot_place i' j' k ≡ slot_place i j (entry_size (depth s) T i j)) → SlotOk s x (append (depth s) T i j u) i' j' k
      slot i' j' k hi hj hk nz (no q) = old_slot i' j' k hi hj hk q nz
      slot i' j' k hi hj hk nz (yes q) =
          let hb : base s ≤ 16 = range.base_most in
          let hK : depth s ≤ 4 = range.depth_most in
          let hj₀ : j < base s = a.digit in
          let hn : entry_size (depth s) T i j < depth s = a.room in
          let wi : i ≡ i' = omega arith in
          let wj : j ≡ j' = omega arith in
          let wk : entry_size (depth s) T i j ≡ k = omega arith in
          subst₃ (SlotOk s x (append (depth s) T i j u)) wi wj wk new_slot

-- the owner stays first
pub append_ok : (s : List ℕ) (x : ℕ) (T : List ℕ) (i j u : ℕ) → InRange (base s) (digits s) (depth s) → length T ≡ 512 → 1 ≤ x
    → TableOk s x T → Addable s x T i j u → TableOk s x (append (depth s) T i j u)
append_ok s x T i j u range long owner ok a =
    let e : Entries s x (append (depth s) T i j u) = append_entries s x T i j u range long (entries_of s x T ok) a in
    record {
      slots = e.slots;
      owner =
          λ i' h.
          let f = ok.owner i' h in
          (append_grows (depth s) T i j u a.room).kept _ (λ e. absurd (omega (arith, sym f ∙ e))) ∙ f;
      unused = e.unused;
    }

-- ---- learning

-- what x must know of another node u to learn it
pub record Known (s : List ℕ) (x u : ℕ) : Type 0 where
  pub first : 1 ≤ u
  pub last : u ≤ node_count s
  pub may : may_stand s x u ≡ true
  pub valid : valid_id (base s) (digits s) (id_of s u) ≡ true
  pub suffix : suffix_of s x u < digits s

-- x's table, 512 bytes that keep the rules
pub record OwnTable (s : List ℕ) (x : ℕ) (T : List ℕ) : Type 0 where
  pub long : length T ≡ 512
  pub rules : TableOk s x T

module _ (s : List ℕ) (x : ℕ) (range : InRange (base s) (digits s) (depth s)) (owner : 1 ≤ x) where
  learn_at_keeps : (u : ℕ) → Known s x u → (i : ℕ) (T : List ℕ) → i ≤ suffix_of s x u → OwnTable s x T → OwnTable s x (learn_at s u i T)
  learn_at_keeps u k i T h o = ⊎_elim appended (λ e. subst (OwnTable s x) (sym e) o) (learn_at_cases s u i T)
    where
      appended : Appended s u i T → OwnTable s x (learn_at s u i T)
      appended a =
          let below : i < digits s = omega (arith, k.suffix) in
          rw a.is
          (record {
            long = append_length (depth s) T i (digit_of (id_of s u) i) u ∙ o.long;
            rules =
                append_ok s x T i (digit_of (id_of s u) i) u range o.long owner o.rules
                (record {
                  level = below;
                  digit = valid_digit (base s) (digits s) (id_of s u) i k.valid below;
                  room = a.room;
                  first = k.first;
                  last = k.last;
                  may = k.may;
                  qual = qualified_of (digits s) (id_of s x) (id_of s u) i (digit_of (id_of s u) i) h refl;
                  absent = a.absent;
                });
          })

  pub learn_keeps : (u : ℕ) → Known s x u → (T : List ℕ) → OwnTable s x T → OwnTable s x (learn s x u T)
  unfolding learn
  learn_keeps u k T o =
      each_keeps (OwnTable s x) (suc (suffix_of s x u)) (learn_at s u) T o
      (λ i T' l. learn_at_keeps u k i T' (le_of_suc-le-suc l))

  -- learning a table whose nodes, x aside, x knows
  pub learn_table_keeps : (Y : List ℕ) → ((p : ℕ) → p < 512 → get_or Y p 0 ≢ 0 → get_or Y p 0 ≢ x → Known s x (get_or Y p 0))
      → (T : List ℕ) → OwnTable s x T → OwnTable s x (learn_table s x Y T)
  unfolding learn_table
  learn_table_keeps Y k T o =
      each_keeps (OwnTable s x) 512 (learn_place s x Y) T o
      (λ p T' l o'.
      ⊎_elim (λ e. subst (OwnTable s x) (sym e) o')
      (λ c. rw c.2 (learn_keeps (get_or Y p 0) (k p l c.0 c.1) T' o'))
      (learn_place_cases s x Y p T'))
