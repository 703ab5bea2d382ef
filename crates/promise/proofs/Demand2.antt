-- Demand 2: the verdict is K-consistency, and an image holds a network whole. Assumes nothing.
use Prim.Native.Nat.{ℕ, ◌≤◌}
use mathlib.Core.Path.{◌≡◌, refl, sym, ap, ap₂, subst, ◌∙◌}
use mathlib.Core.Logic.{inl, inr, ⊎_elim}
use mathlib.Core.Bool.{Bool, true, false, cond}
use mathlib.Core.List.{List, [], ◌∷◌, ◌++◌}
use native.Mathlib.Omega.{arith}
use lib.Dec.{ltb}
use lib.ListN.{length, get_or, take, drop}
use lib.Seq.{length-take-le, take_at}
use borrow.Author.Tests.{le-ltb}
use Rattle.model.specs.Memory.{Memory, state_length, tables_length, is_in_system}
use Rattle.model.specs.Consistency.{Verdict, first_short, consistent}
use Rattle.model.specs.Image.{has_joins, image_of, im_version, loaded, without_counts, kept}
use Rattle.model.specs.Refusals.{memory_short, state_refusal, read_refusal, verdict_refusal, write_refusal}
use Rattle.model.specs.Calls.{Outcome, taken, verdict_fields, read_call, verdict_call, write_call}
use Rattle.model.specs.Run.{is_taken}
use Rattle.model.proofs.Bools.{true_or_false}
use Rattle.model.proofs.Status.{IsNode, is_node_lem, is_node_of}
use Rattle.model.proofs.Sound.{Sound}
use Rattle.model.proofs.Refusals as refusals
use Rattle.model.proofs.Taken.{long_of, state_taken, verdict_taken, write_taken, state_free}
use Rattle.model.proofs.Calls.{taken_is, taken_zero}
use Rattle.model.proofs.Consistency.{NotWhole, entry_fewer, fewer_entry, consistent_is, is_consistent, verdict_is, first_not_whole, first_node_least, first_level_least, first_digit_least}
use Rattle.model.proofs.JoinSections.{image_most, image_most_1}
use Rattle.model.proofs.WithoutCounts.{without_length}
use Rattle.model.proofs.WrittenRead.{onto}
use Rattle.model.proofs.ReadWritten as images
use Rattle.model.proofs.ReadingIsSound.{read_sound}
use Rattle.model.proofs.RoundTrip.{write_then_read, read_then_write}
use Rattle.promise.specs.Fixed.{fixed}
use Rattle.promise.specs.Demand2.{Short, Before, FirstShort, VerdictIs, Bytes, length_written, written, ReadThenWritten, WrittenThenRead, Demand2}

-- ---- the verdict

module _ (m : Memory) (e : is_taken (verdict_call m).answer ≡ true) where
  abbrev s : List ℕ
  s = m.state

  abbrev t : List ℕ
  t = m.tables

  free : verdict_refusal m ≡ 0
  unfolding verdict_call
  free = taken_zero m (verdict_refusal m) [] _ _ e

  pub verdict_sound : Sound s t
  verdict_sound = (verdict_taken m free).0

  -- every node is in system
  pub settled : (x : ℕ) → IsNode s x → is_in_system s x ≡ true
  settled = (verdict_taken m free).1

  -- what the verdict answers, by the book's test
  says : (b : Bool) → consistent s t ≡ b
      → (verdict_call m).answer ≡ 0 ∷ verdict_fields (cond b (record { consistent = 1; node = 0; level = 0; digit = 0 }) (first_short s t))
  unfolding verdict_call taken
  says b q =
      ap (λ (o : Outcome). o.answer) (taken_is _ _ _ free) ∙ ap (λ (v : Verdict). 0 ∷ verdict_fields v) (verdict_is s t b q)

  field : {answer answer' : List ℕ} → answer ≡ answer' → get_or answer 1 0 ≡ get_or answer' 1 0
  field = ap (λ (l : List ℕ). get_or l 1 0)

  no_says : consistent s t ≡ false → get_or (verdict_call m).answer 1 0 ≡ 0
  unfolding first_short
  no_says f = field (says false f)

  pub yes_says : consistent s t ≡ true → get_or (verdict_call m).answer 1 0 ≡ 1
  yes_says f = field (says true f)

  pub says_yes : get_or (verdict_call m).answer 1 0 ≡ 1 → consistent s t ≡ true
  says_yes p = ⊎_elim (λ q. q) (λ q. absurd (omega (arith, p, no_says q))) (true_or_false (consistent s t))

  says_no : get_or (verdict_call m).answer 1 0 ≡ 0 → consistent s t ≡ false
  says_no p = ⊎_elim (λ q. absurd (omega (arith, p, yes_says q))) (λ q. q) (true_or_false (consistent s t))

  -- an entry is short exactly where it is not whole
  short_of : {x i j : ℕ} → NotWhole s t x i j → Short m x i j
  short_of {x} {i} {j} w = record {
    node = is_node_of s x w.node;
    level = w.level;
    digit = w.digit;
    few = entry_fewer s t verdict_sound x i j w.node w.level w.digit w.short;
  }

  of_short : {x i j : ℕ} → Short m x i j → NotWhole s t x i j
  of_short {x} {i} {j} w =
      let n = is_node_lem s x w.node in
      record { node = n; level = w.level; digit = w.digit; short = fewer_entry s t verdict_sound x i j n w.level w.digit w.few }

  abbrev v : Verdict
  v = first_short m.state m.tables

  first_short_lem : consistent s t ≡ false → FirstShort m v.node v.level v.digit
  first_short_lem f = record { short = short_of (first_not_whole s t f); first = λ x i j b w. none x i j b (of_short w) }
    where
      none : (x i j : ℕ) → Before x i j v.node v.level v.digit → NotWhole s t x i j → ⊥
      none x i j (inl l) w = omega (arith, l, first_node_least s t w)
      none x i j (inr (p, inl l)) w =
          omega (arith, l, first_level_least s t (subst (λ (x : ℕ). NotWhole s t x i j) p w))
      none x i j (inr (p, inr (q, l))) w =
          omega (arith, l, first_digit_least s t (subst (λ (i : ℕ). NotWhole s t v.node i j) q (subst (λ (x : ℕ). NotWhole s t x i j) p w)))

  verdicts : VerdictIs m
  verdicts = record {
    yes = λ p. consistent_is s t verdict_sound (says_yes p);
    whole = λ k. yes_says (is_consistent s t verdict_sound k);
    no =
        λ p.
        let f = says_no p in
        subst (λ (l : List ℕ). FirstShort m (get_or l 2 0) (get_or l 3 0) (get_or l 4 0)) (sym (says false f)) (first_short_lem f);
    either = ⊎_elim (λ q. inl (yes_says q)) (λ q. inr (no_says q)) (true_or_false (consistent s t));
  }

-- ---- images

-- what a writing of the image im leaves
abbrev left : Memory → List ℕ → List ℕ → Outcome
left m im out = taken m (im ++ drop (length im) out) (length im ∷ [])

-- its bytes, as many as it answers, are the image
in_front : (o : Outcome) (m : Memory) (im out : List ℕ) → o ≡ left m im out → take (get_or o.answer 1 0) o.out ≡ im
unfolding taken
in_front o m im out e =
    ap (λ (o : Outcome). take (get_or o.answer 1 0) o.out) e ∙ take_at im (drop (length im) out) (length im) refl

-- an image that is read, then written
read_back : (m : Memory) (im out : List ℕ) → Bytes im → is_taken (read_call m im).answer ≡ true → length im ≤ length out → ReadThenWritten m im out
unfolding read_call taken
read_back m im out byte e room =
    let z = taken_zero m (read_refusal m im) [] _ _ e in
    let g : Memory = loaded m.state m.tables im in
    let w : write_call (read_call m im).memory (im_version im) out ≡ left (loaded m.state m.tables im) im out =
    ap (λ (o : Outcome). write_call o.memory (im_version im) out) (taken_is (read_refusal m im) _ _ z) ∙ read_then_write m im out byte z room in
    record { taken = ap (λ (o : Outcome). is_taken o.answer) w; bytes = in_front _ g im out w }

-- an image that reading takes is no longer than a written one
short_read : (m : Memory) (im : List ℕ) → Bytes im → is_taken (read_call m im).answer ≡ true → length im ≤ 25226
unfolding read_call
short_read m im byte e =
    let z = taken_zero m (read_refusal m im) [] _ _ e in
    let g : Memory = loaded m.state m.tables im in
    subst (λ (im : List ℕ). length im ≤ 25226) (images.read_written m im byte z) (image_most (im_version im) g.state g.tables (read_sound m im z))

-- the places of the fixed lengths
fixed_part : (n : ℕ) (xs ys : List ℕ) → n ≤ length xs → take n (take n xs ++ drop n ys) ≡ take n xs
fixed_part n xs ys l = take_at (take n xs) (drop n ys) n (length-take-le n xs l)

-- what an image keeps of a state is as long
kept_length : (v : ℕ) (s : List ℕ) → length (kept v s) ≡ length s
kept_length v s = go (has_joins v)
  where
    go : (b : Bool) → length (cond b s (without_counts s)) ≡ length s
    go true = refl
    go false = without_length s

module _ (m : Memory) (v : ℕ) (out : List ℕ) where
  abbrev image : List ℕ
  image = image_of v m.state m.tables

  module _ (z : write_refusal m v out ≡ 0) where
    wrote : write_call m v out ≡ left m image out
    unfolding write_call
    wrote = taken_is _ _ _ z

    pub can_take : is_taken (write_call m v out).answer ≡ true
    unfolding taken
    can_take = ap (λ (o : Outcome). is_taken o.answer) wrote

  module _ (e : is_taken (write_call m v out).answer ≡ true) where
    can_write : write_refusal m v out ≡ 0
    unfolding write_call
    can_write = taken_zero m (write_refusal m v out) out _ _ e

    pub sound_written : Sound m.state m.tables
    sound_written = (write_taken m v out can_write).sound

    -- the bytes that it wrote
    pub written_is : written m v out ≡ image
    written_is = in_front _ m image out (wrote can_write)

    -- a state that is written, then read
    pub read_written : (m' : Memory) → memory_short m' ≡ false
        → read_call m' (written m v out) ≡ taken (onto (record { state = kept v m.state; tables = m.tables }) m') [] (0 ∷ [])
    read_written m' f = ap (read_call m') written_is ∙ write_then_read m m' v out can_write (long_of m' f)

    written_back : (m' : Memory) → memory_short m' ≡ false → WrittenThenRead m m' v out
    unfolding onto taken
    written_back m' f =
        let u : Memory = record { state = kept v m.state; tables = m.tables } in
        let long = sound_written.long in
        record {
          taken = ap (λ (o : Outcome). is_taken o.answer) (read_written m' f);
          state =
              ap (λ (o : Outcome). fixed o.memory) (read_written m' f)
              ∙ ap₂ (λ (s t : List ℕ). record { state = s; tables = t })
              (fixed_part state_length u.state m'.state (omega (arith, kept_length v m.state, long.state)))
              (fixed_part tables_length m.tables m'.tables long.tables);
        }

    length_written_lem : length_written m v out ≡ length image
    unfolding taken
    length_written_lem = ap (λ (o : Outcome). get_or o.answer 1 0) (wrote can_write)

-- a sound state, written as version 2
saved : (m : Memory) (out : List ℕ) → state_refusal m ≡ 0 → 25226 ≤ length out → is_taken (write_call m 2 out).answer ≡ true
unfolding write_refusal
saved m out z room =
    let S = state_taken m z in
    let im : List ℕ = image_of 2 m.state m.tables in
    let fits : ltb (length out) (length (image_of 2 m.state m.tables)) ≡ false =
    le-ltb (length out) (length (image_of 2 m.state m.tables)) (omega (arith, image_most 2 m.state m.tables S)) in
    can_take m 2 out (state_free m _ S (refusals.free _ 4 _ refl (refusals.free _ 15 _ refl (refusals.free _ 16 [] fits (sym refusals.sentence_none)))))

pub demand2 : Demand2
demand2 = record {
  verdicts = verdicts;
  read_back = read_back;
  written_back = λ m m' v out e. written_back m v out e m';
  short_image =
      λ m v out e.
      omega (arith, length_written_lem m v out e, image_most v m.state m.tables (sound_written m v out e));
  short_plain =
      λ m out e.
      omega (arith, length_written_lem m 1 out e, image_most_1 m.state m.tables (sound_written m 1 out e));
  short_read = short_read;
  saved = saved;
}
