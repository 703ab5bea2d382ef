-- A step that a path may go, by the slots of the table: in a sound state the node stands in the entry that the lookup rule names. Assumes nothing.
use Prim.Native.Nat.{ℕ, ◌<◌}
use mathlib.Core.Path.{◌≡◌, sym, ap, ◌∙◌}
use mathlib.Core.Logic.{◌≢◌}
use mathlib.Core.Bool.{Bool, true, false, not, ◌&&◌}
use mathlib.Core.List.{List}
use native.Mathlib.Omega.{arith}
use lib.ListN.{length, get_or}
use borrow.Author.Tests.{eq-eqb, ne_eqb}
use Rattle.model.specs.Ids.{digit_of}
use Rattle.model.specs.Memory.{base, digits, depth, id_of, table_of}
use Rattle.model.specs.Tables.{slot_at, entry_size, holds}
use Rattle.model.specs.Nodes.{suffix_of}
use Rattle.model.specs.Lookup.{hop_entry}
use Rattle.model.specs.Traces.{among, may_go}
use Rattle.model.proofs.Bools.{same_test}
use Rattle.model.proofs.Tables.{size_le}
use Rattle.model.proofs.Status.{IsNode}
use Rattle.model.proofs.Sound.{Sound}
use Rattle.model.proofs.SoundEntries.{size_is_length, entry_slot}
use Rattle.model.proofs.LearningKeepsRules.{entries_of, gap_free}
use Rattle.model.proofs.NextHop.{level_below, digit_below}
use Rattle.model.proofs.Traces.{among_at, among_of}
use Rattle.model.proofs.NoRoom.{place, held_place, slot_held, place_before}

-- no path goes on past its destination
pub may_not_leave : (s t : List ℕ) (u v z : ℕ) → u ≡ z → false ≡ may_go s t u v z
unfolding may_go
may_not_leave s t u v z e = ap (λ (b : Bool). not b && among (hop_entry s t u z) v) (sym (eq-eqb u z e))

module _ (s t : List ℕ) (S : Sound s t) (u v z : ℕ) (nu : IsNode s u) (nz : IsNode s z) (ne : u ≢ z) (some : v ≢ 0) where
  abbrev level : ℕ
  level = suffix_of s u z

  abbrev digit : ℕ
  digit = digit_of (id_of s z) level

  abbrev T : List ℕ
  T = table_of t u

  below : level < digits s
  below = level_below s t S u z nu nz ne

  low : digit < base s
  low = digit_below s t S u z nu nz ne

  long : length (hop_entry s t u z) ≡ entry_size (depth s) T level digit
  unfolding hop_entry
  long = size_is_length s t S u level digit nu below low

  at : (k : ℕ) → k < length (hop_entry s t u z) → get_or (hop_entry s t u z) k 0 ≡ slot_at T level digit k
  unfolding hop_entry
  at = entry_slot s t S u level digit nu below low

  held_among : holds (depth s) T level digit v ≡ true → among (hop_entry s t u z) v ≡ true
  held_among e =
      let k : ℕ = place (depth s) T level digit v in
      let l = place_before (depth s) T level digit (gap_free s u T (entries_of s u T (S.tables u nu)) level digit below low) v some e in
      let w : k < length (hop_entry s t u z) = omega (arith, l, long) in
      among_of (hop_entry s t u z) v k w (at k w ∙ (held_place (depth s) T level digit v e).1)

  among_held : among (hop_entry s t u z) v ≡ true → holds (depth s) T level digit v ≡ true
  among_held e =
      let a = among_at (hop_entry s t u z) v e in
      slot_held (depth s) T level digit v a.0 (omega (arith, a.1, long, size_le (depth s) T level digit)) (sym (at a.0 a.1) ∙ a.2)

  pub may_go_held : holds (depth s) T level digit v ≡ may_go s t u v z
  unfolding may_go
  may_go_held =
      same_test (holds (depth s) T level digit v) (among (hop_entry s t u z) v) held_among among_held
      ∙ ap (λ (b : Bool). not b && among (hop_entry s t u z) v) (sym (ne_eqb u z ne))
