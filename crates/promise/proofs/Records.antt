-- What reading says of records: the places of 10, 17 and 18, and that they are one number told apart. Assumes nothing.
use Prim.Native.Nat.{ℕ, ◌+◌, ◌-◌}
use mathlib.Core.Path.{◌≡◌, refl, sym, ap, subst, ◌∙◌}
use mathlib.Core.Bool.{Bool, true, false, cond, not, ◌&&◌}
use mathlib.Core.List.{List, [], ◌∷◌, ◌++◌}
use native.Mathlib.Omega.{arith}
use lib.Dec.{eqb}
use lib.ListN.{get_or}
use borrow.Author.Tests.{not-true, not-false}
use Rattle.model.specs.Loops.{all_below, first_below}
use Rattle.model.specs.Memory.{Memory}
use Rattle.model.specs.Image.{im_records, rec_ordered, rec_allowed, rec_owner_first, records_ordered, records_allowed, own_present, records_owned}
use Rattle.model.specs.Refusals.{Sentence, first_true, memory_short, frame_sentences, read_refusal, first_failing, record_place, joins_wrong}
use Rattle.model.specs.Calls.{Outcome, refused_at, taken, read_call}
use Rattle.model.proofs.Bools.{and_left, and_right}
use Rattle.model.proofs.Loops.{first_fails, first_before, first_holds}
use Rattle.model.proofs.Calls.{either_end}
use Rattle.model.proofs.Refusals.{lacks}
use Rattle.model.proofs.Places.{refused_10, refused_17, refused_18, place_none}
use Rattle.promise.specs.Records.{refusal_of, place_of, FirstToFail, Places, refusal_as_one, as_one, RecordRefusals}

-- ---- the answer is the refusal and its place

answer_is : (m : Memory) (im : List ℕ) → (read_call m im).answer ≡ read_refusal m im ∷ record_place im (read_refusal m im) ∷ []
unfolding read_call refused_at taken record_place
answer_is m im =
    either_end (λ (o : Outcome). o.answer ≡ read_refusal m im ∷ record_place im (read_refusal m im) ∷ []) (read_refusal m im) _ _ (λ nz. refl)
    (λ z. ap (λ (n : ℕ). n ∷ record_place im n ∷ []) (sym z))

module _ (m : Memory) (im : List ℕ) where
  refusal_is : refusal_of m im ≡ read_refusal m im
  refusal_is = ap (λ (answer : List ℕ). get_or answer 0 0) (answer_is m im)

  place_is : (n : ℕ) → refusal_of m im ≡ n → place_of m im ≡ record_place im n
  place_is n e = ap (λ (answer : List ℕ). get_or answer 1 0) (answer_is m im) ∙ ap (record_place im) (sym refusal_is ∙ e)

  -- ---- the places

  first_to_fail : (test : ℕ → Bool) → all_below (im_records im) test ≡ false → FirstToFail im test (first_failing im test)
  first_to_fail test e =
      let l = first_fails (im_records im) test e in
      let k : ℕ = first_below (im_records im) (λ r. not (test r)) in
      let same : k ≡ first_below (im_records im) (λ r. not (test r)) + 1 - 1 = omega arith in
      record {
        least = omega arith;
        most = omega arith;
        fails = subst (λ (r : ℕ). test r ≡ false) same (not-true _ (first_holds (im_records im) (λ r. not (test r)) l));
        before = λ r h. not-false _ (first_before (im_records im) (λ r. not (test r)) r (omega arith));
      }

  -- the same of a place that is answered
  answered : (test : ℕ → Bool) (n : ℕ) → refusal_of m im ≡ n → record_place im n ≡ first_failing im test → all_below (im_records im) test ≡ false
      → FirstToFail im test (place_of m im)
  answered test n e p f = subst (FirstToFail im test) (sym (place_is n e ∙ p)) (first_to_fail test f)

  number : (n : ℕ) → refusal_of m im ≡ n → read_refusal m im ≡ n
  number n e = sym refusal_is ∙ e

  places : Places m im
  unfolding record_place
  places = record {
    ten = λ e. answered (rec_ordered im) 10 e refl (refused_10 m im (number 10 e)).1;
    seventeen = λ e. let r = refused_17 m im (number 17 e) in (r.1, answered (rec_allowed im) 17 e refl r.2);
    eighteen = λ e. let r = refused_18 m im (number 18 e) in (r.1, r.2);
    absent = λ e a. place_is 18 e ∙ ap (λ (b : Bool). cond b (first_failing im (rec_owner_first im)) 0) a;
    misplaced =
        λ e p.
        answered (rec_owner_first im) 18 e (ap (λ (b : Bool). cond b (first_failing im (rec_owner_first im)) 0) p)
        (ap (λ (b : Bool). b && records_owned im) (sym p) ∙ (refused_18 m im (number 18 e)).3);
    others = λ a b c. place_is (refusal_of m im) refl ∙ place_none im (refusal_of m im) a b c;
  }

-- ---- one number told apart

-- sentences that have neither 17 nor 18 stand before both lists
as_one_lem : (pre three one : List Sentence) → lacks 17 pre ≡ true → lacks 18 pre ≡ true → as_one (first_true three) ≡ first_true one
    → as_one (first_true (pre ++ three)) ≡ first_true (pre ++ one)
unfolding first_true lacks
as_one_lem [] three one a b e = e
as_one_lem (c ∷ cs) three one a b e =
    go c.0 (as_one_lem cs three one (and_right (not (eqb c.1 17)) _ a) (and_right (not (eqb c.1 18)) _ b) e)
  where
    same : as_one c.1 ≡ c.1
    same = rw (not-true (eqb c.1 17) (and_left _ _ a), not-true (eqb c.1 18) (and_left _ _ b))

    go : (t : Bool) → as_one (first_true (cs ++ three)) ≡ first_true (cs ++ one)
        → as_one (cond t c.1 (first_true (cs ++ three))) ≡ cond t c.1 (first_true (cs ++ one))
    go true f = same
    go false f = f

-- the three sentences and the one, with another behind them
three_as_one : (a b p o j : Bool)
    → as_one (first_true ((not a, 10) ∷ (not b, 17) ∷ (not (p && o), 18) ∷ (j, 24) ∷ [])) ≡ first_true ((not (a && (b && (o && p))), 10) ∷ (j, 24) ∷ [])
unfolding first_true
three_as_one true true true true true = refl
three_as_one true true true true false = refl
three_as_one true true true false j = refl
three_as_one true true false true j = refl
three_as_one true true false false j = refl
three_as_one true false p o j = refl
three_as_one false b p o j = refl

together : (m : Memory) (im : List ℕ) → as_one (refusal_of m im) ≡ refusal_as_one m im
unfolding read_refusal refusal_as_one lacks
together m im =
    ap as_one (refusal_is m im)
    ∙ as_one_lem ((memory_short m, 1) ∷ frame_sentences im) _ _ refl refl
    (three_as_one (records_ordered im) (records_allowed im) (own_present im) (records_owned im) (joins_wrong im))

-- ---- the theorem

pub record_refusals : RecordRefusals
record_refusals = record { places = places; together = together }
