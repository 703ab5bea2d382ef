-- The sentences of an image as the code judges them. Assumes nothing.
use Prim.Native.Nat.{ℕ, ◌<◌}
use mathlib.Core.Path.{◌≡◌, refl, sym, ap, ap₂, ◌∙◌}
use mathlib.Core.Bool.{Bool, true, false, cond, not}
use mathlib.Core.List.{List, []}
use Rattle.std.specs.Prelude.{None, Some, Result, Ok, Err, IsErr, IsErrAnd}
use Rattle.answers.specs.Numbers.{number_of}
use Rattle.answers.specs.Fields.{read_fields}
use Rattle.answers.specs.declared.error.Refusal.{Refusal}
use Rattle.answers.specs.declared.error.ImageRefused.{ImageRefused}
use native.Mathlib.Omega.{arith}
use lib.Dec.{ltb}
use lib.ListN.{length, drop}
use borrow.Author.Tests.{ltb-false, not-true, not-false}
use Rattle.model.specs.Loops.{all_below, node}
use Rattle.model.specs.Ids.{settings_in_range}
use Rattle.model.specs.Image.{byte_at, im_version, im_base, im_digits, im_depth, im_records, rec_ordered, rec_allowed, rec_owner_first, records_ordered, records_allowed, own_present, records_owned}
use Rattle.model.specs.Refusals.{first_true, no_settings, other_version, counts_wrong, frame_sentences, record_sentences, first_failing, record_place}
use Rattle.model.proofs.Bools.{or_none_left}
use Rattle.model.proofs.Ids.{settings_range}
use Rattle.model.proofs.Counts.{length_joins, length_least, counts_ok}
use Rattle.model.proofs.Refusals.{sentence_leaves, sentence_goes, sentence_not_leaves, sentence_not_goes, sentence_none, left_leaves, right_leaves, both_go, numbered, lacks, lacking, sentences_refused, sentences_later}
use Rattle.model.proofs.Places.{place_none}
use Rattle.image_fields.specs.Parts.{CountsRight, Headed}
use Rattle.image_fields.specs.declared.header.Header.{Header}
use Rattle.image_judging.specs.Judged.{names_refusal, early_refusal, records_refusal, tables_refusal, answer, answer_of}
use Rattle.image_judging.specs.Marks.{levels_marked}
use Rattle.image_judging.specs.Walked.{Through, Walked}
use Rattle.image_judging.specs.declared.walk.Faults.{Faults}
use Rattle.image_judging.proofs.Faults.{fault_none, fault_some}
use Rattle.image_judging.proofs.Marked.{own_said}

-- ---- errors

false_true : false ≡ true → ⊥
false_true e = Prim.cc e

-- a refusal that `?` hands on is about no record
pub placeless : {A : Type 0} (r : Result A ImageRefused) (e : Refusal) → IsErr r × IsErrAnd r (λ x. (x.refusal ≡ e) × (x.place ≡ 0))
    → read_fields r ≡ answer (number_of e) 0
placeless (Ok x) e h = absurd (false_true h.0)
placeless (Err x) e h = ap₂ answer (ap number_of h.1.0) h.1.1

-- what 5 and 6 leave
pub counted_of : (im : List ℕ) → ((a : ℕ) → byte_at im a < 256) → settings_in_range (im_base im) (im_digits im) (im_depth im) ≡ true
    → counts_wrong im ≡ false → CountsRight im
counted_of im bytes s e =
    let range = settings_range (im_base im) (im_digits im) (im_depth im) s in
    let counts = counts_ok im e in
    record {
      bytes = bytes;
      base = range.base_most;
      digits = range.digits_most;
      depth = range.depth_most;
      some = counts.some;
      few = counts.few;
      whole = omega (arith, counts.size, length_least im);
      rest = λ v. counts.size ∙ length_joins im v;
      short = counts.short;
    }

-- ---- 3 to 6, in the order of the code's returns

module _ (im : List ℕ) (a : Bool) (ea : a ≡ no_settings im) where
  pub says_3 : a ≡ true → 3 ≡ early_refusal im
  unfolding early_refusal
  says_3 g = sentence_leaves (no_settings im) 3 _ a ea g

  module _ (ga : a ≡ false) where
    -- the settings are there
    pub reaches : (k : ℕ) → k < 5 → k < length im
    reaches k l = omega (arith, ltb-false (length im) 5 (or_none_left (ltb (length im) 5) _ (sym ea ∙ ga)))

    past_3 : (x : ℕ) → x ≡ first_true (drop 1 (frame_sentences im)) → x ≡ early_refusal im
    unfolding early_refusal
    past_3 x q = sentence_goes (no_settings im) 3 _ x a ea ga q

    pub says_4 : (o : Bool) → o ≡ other_version (im_version im) → o ≡ true → 4 ≡ early_refusal im
    says_4 o eo g = past_3 4 (sentence_leaves (other_version (im_version im)) 4 _ o eo g)

    module _ (o : Bool) (eo : o ≡ other_version (im_version im)) (go : o ≡ false) (x y z : ℕ) (ex : x ≡ im_base im) (ey : y ≡ im_digits im) (ez : z ≡ im_depth im)
        (b : Bool) (eb : b ≡ settings_in_range x y z) where
      settings : b ≡ settings_in_range (im_base im) (im_digits im) (im_depth im)
      settings = eb ∙ rw (ex, ey, ez)

      past_4 : (r : ℕ) → r ≡ first_true (drop 2 (frame_sentences im)) → r ≡ early_refusal im
      past_4 r q = past_3 r (sentence_goes (other_version (im_version im)) 4 _ r o eo go q)

      pub says_5 : not b ≡ true → 5 ≡ early_refusal im
      says_5 g = past_4 5 (sentence_not_leaves _ 5 _ b settings g)

      module _ (gb : not b ≡ false) (w : Bool) (ew : w ≡ counts_wrong im) where
        past_5 : (r : ℕ) → r ≡ first_true (drop 3 (frame_sentences im)) → r ≡ early_refusal im
        past_5 r q = past_4 r (sentence_not_goes _ 5 _ r b settings gb q)

        pub says_6 : w ≡ true → 6 ≡ early_refusal im
        says_6 g = past_5 6 (sentence_leaves (counts_wrong im) 6 _ w ew g)

        pub says_later : w ≡ false → (r : ℕ) → r ≡ names_refusal im → r ≡ early_refusal im
        unfolding names_refusal
        says_later g r q = past_5 r (sentence_goes (counts_wrong im) 6 _ r w ew g q)

        pub counted : w ≡ false → ((a : ℕ) → byte_at im a < 256) → CountsRight im
        counted g bytes = counted_of im bytes (sym settings ∙ not-false b gb) (sym ew ∙ g)

-- ---- 10, 17 and 18, after 3 to 9

pub early_is : (im : List ℕ) (r : ℕ) → r ≡ early_refusal im → (r ≡ 0 → ⊥) → answer r 0 ≡ answer_of im (tables_refusal im)
unfolding early_refusal tables_refusal answer_of lacks
early_is im r e nz =
    let none : record_place im r ≡ 0 =
    place_none im r (λ q. lacking 10 (frame_sentences im) (omega arith) refl (sym e ∙ q))
    (λ q. lacking 17 (frame_sentences im) (omega arith) refl (sym e ∙ q))
    (λ q. lacking 18 (frame_sentences im) (omega arith) refl (sym e ∙ q)) in
    ap (answer r) (sym none)
    ∙ ap (answer_of im) (sentences_refused (frame_sentences im) (record_sentences im) r e nz)

pub late_is : (im : List ℕ) (r : ℕ) → r ≡ early_refusal im → r ≡ 0 → (a : List ℕ) → a ≡ answer_of im (records_refusal im)
    → a ≡ answer_of im (tables_refusal im)
unfolding early_refusal tables_refusal records_refusal numbered
late_is im r e z a q =
    q ∙ ap (answer_of im) (sentences_later (frame_sentences im) (record_sentences im) refl r _ e z refl)

-- the returns of the code, by what the walk found
module _ (im : List ℕ) (f : Faults) (own : List ℕ) (w : Walked im f own) where
  pub says_10 : (place : ℕ) → f.disordered ≡ Some place → (a : List ℕ) → a ≡ answer 10 place → a ≡ answer_of im (records_refusal im)
  unfolding answer_of record_place records_refusal
  says_10 place some a i =
      let s = fault_some im (rec_ordered im) f.disordered place w.disordered some in
      i
      ∙ ap (answer 10) s.1
      ∙ ap (answer_of im) (sentence_leaves (not (records_ordered im)) 10 _ true (sym (ap not s.0)) refl)

  module _ (z : f.disordered ≡ None) where
    T : Through im f own
    T = w.through z

    past_10 : (r : ℕ) → r ≡ first_true (drop 1 (record_sentences im)) → r ≡ records_refusal im
    unfolding records_refusal
    past_10 r q =
        sentence_goes (not (records_ordered im)) 10 _ r false
        (sym (ap not (fault_none (im_records im) (rec_ordered im) f.disordered w.disordered z))) refl q

    pub says_17 : (place : ℕ) → f.forbidden ≡ Some place → (a : List ℕ) → a ≡ answer 17 place → a ≡ answer_of im (records_refusal im)
    unfolding answer_of record_place
    says_17 place some a i =
        let s = fault_some im (rec_allowed im) f.forbidden place T.forbidden some in
        i
        ∙ ap (answer 17) s.1
        ∙ ap (answer_of im) (past_10 17 (sentence_leaves (not (records_allowed im)) 17 _ true (sym (ap not s.0)) refl))

    module _ (y : f.forbidden ≡ None) (h : Header) (v : Headed im h) (p : Bool) (q : p ≡ all_below h.nodes (node (levels_marked own h.digits))) where
      ep : p ≡ own_present im
      ep = own_said im own h p v T.marked q

      past_17 : (r : ℕ) → r ≡ first_true (drop 2 (record_sentences im)) → r ≡ records_refusal im
      past_17 r q =
          past_10 r
          (sentence_goes (not (records_allowed im)) 17 _ r false
          (sym (ap not (fault_none (im_records im) (rec_allowed im) f.forbidden T.forbidden y))) refl q)

      pub says_absent : (a : List ℕ) → a ≡ answer 18 0 → not p ≡ true → a ≡ answer_of im (records_refusal im)
      unfolding answer_of record_place
      says_absent a i g =
          let absent : own_present im ≡ false = sym ep ∙ not-true p g in
          i
          ∙ ap (λ (b : Bool). answer 18 (cond b (first_failing im (rec_owner_first im)) 0)) (sym absent)
          ∙ ap (answer_of im)
          (past_17 18 (left_leaves (own_present im) (records_owned im) 18 [] p ep g))

      module _ (g : not p ≡ false) where
        there : own_present im ≡ true
        there = sym ep ∙ not-false p g

        pub says_misplaced : (place : ℕ) → f.misplaced ≡ Some place → (a : List ℕ) → a ≡ answer 18 place → a ≡ answer_of im (records_refusal im)
        unfolding answer_of record_place
        says_misplaced place some a i =
            let s = fault_some im (rec_owner_first im) f.misplaced place T.misplaced some in
            i
            ∙ ap (answer 18) s.1
            ∙ ap (λ (b : Bool). answer 18 (cond b (first_failing im (rec_owner_first im)) 0)) (sym there)
            ∙ ap (answer_of im)
            (past_17 18 (right_leaves (own_present im) (records_owned im) 18 [] p ep g false (sym s.0) refl))

        pub says_none : (a : List ℕ) → a ≡ answer 0 0 → f.misplaced ≡ None → a ≡ answer_of im (records_refusal im)
        unfolding answer_of record_place
        says_none a i x =
            i
            ∙ ap (answer_of im)
            (past_17 0
            (both_go (own_present im) (records_owned im) 18 [] p ep g true
            (sym (fault_none (im_records im) (rec_owner_first im) f.misplaced T.misplaced x)) refl 0 sentence_none))
