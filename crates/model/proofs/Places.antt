-- The place of a record that reading refuses an image for: what each of 10, 17 and 18 says, and where the first record that fails stands. Assumes
-- nothing.
use Prim.Native.Nat.{ℕ, ◌+◌, ◌≤◌, ◌<◌}
use mathlib.Core.Path.{◌≡◌, refl, sym, ap, subst, ◌∙◌}
use mathlib.Core.Logic.{◌≢◌}
use mathlib.Core.Bool.{Bool, true, false, cond, not, ◌&&◌}
use mathlib.Core.List.{List, ◌∷◌, ◌++◌}
use native.Mathlib.Decide.{ℕ_discrete}
use native.Mathlib.Omega.{arith}
use lib.ListN.{take}
use borrow.Author.Tests.{ne_eqb, not-true, not-false}
use Rattle.model.specs.Loops.{all_below}
use Rattle.model.specs.Memory.{Memory}
use Rattle.model.specs.Image.{im_records, rec_ordered, rec_allowed, rec_owner_first, records_ordered, records_allowed, own_present, records_owned}
use Rattle.model.specs.Refusals.{Sentence, first_true, memory_short, counts_wrong, frame_sentences, record_sentences, read_refusal, first_failing, record_place}
use Rattle.model.proofs.Counts.{records_few}
use Rattle.model.proofs.Refusals.{numbered, test_of, passed, lacks, stopped}
use Rattle.model.proofs.Loops.{all_at, first_unique, first_fails}

-- ---- the place of the first record that fails

pub failing_is : (im : List ℕ) (test : ℕ → Bool) (r : ℕ) → r < im_records im → all_below r test ≡ true → test r ≡ false → r + 1 ≡ first_failing im test
failing_is im test r l e q =
    ap (λ (k : ℕ). k + 1)
    (first_unique (im_records im) (λ k. not (test k)) r
    (record { within = omega arith; before = λ k h. ap not (all_at r test e k h); holds = λ h. ap not q }))

-- other refusals give no place
pub place_none : (im : List ℕ) (n : ℕ) → n ≢ 10 → n ≢ 17 → n ≢ 18 → record_place im n ≡ 0
unfolding record_place
place_none im n a b c =
    rw (ne_eqb n 10 a, ne_eqb n 17 b, ne_eqb n 18 c)

-- ---- what each of the three says

module _ (m : Memory) (im : List ℕ) where
  -- the sentences before them
  abbrev before : List Sentence
  before = (memory_short m, 1) ∷ frame_sentences im

  counts_of : first_true before ≡ 0 → counts_wrong im ≡ false
  unfolding numbered test_of
  counts_of z = passed before refl z 6

  pub refused_10 : read_refusal m im ≡ 10 → (counts_wrong im ≡ false) × (records_ordered im ≡ false)
  unfolding read_refusal lacks
  refused_10 e =
      let s = stopped before (not (records_ordered im)) 10 _ (omega arith) refl refl e in
      (counts_of s.0, not-true _ s.1)

  pub refused_17 : read_refusal m im ≡ 17 → (counts_wrong im ≡ false) × (records_ordered im ≡ true) × (records_allowed im ≡ false)
  unfolding read_refusal lacks numbered test_of
  refused_17 e =
      let pre : List Sentence = before ++ take 1 (record_sentences im) in
      let s = stopped pre (not (records_allowed im)) 17 _ (omega arith) refl refl e in
      (passed pre refl s.0 6, not-false _ (passed pre refl s.0 10), not-true _ s.1)

  pub refused_18 : read_refusal m im ≡ 18
      → (counts_wrong im ≡ false) × (records_ordered im ≡ true) × (records_allowed im ≡ true) × ((own_present im && records_owned im) ≡ false)
  unfolding read_refusal lacks numbered test_of
  refused_18 e =
      let pre : List Sentence = before ++ take 2 (record_sentences im) in
      let s = stopped pre (not (own_present im && records_owned im)) 18 _ (omega arith) refl refl e in
      (passed pre refl s.0 6, not-false _ (passed pre refl s.0 10), not-false _ (passed pre refl s.0 17), not-true _ s.1)

  -- ---- how large a place is

  few : (test : ℕ → Bool) → counts_wrong im ≡ false → all_below (im_records im) test ≡ false → first_failing im test ≤ 16380
  few test c e = omega (arith, first_fails (im_records im) test e, records_few im c)

  few_10 : read_refusal m im ≡ 10 → record_place im 10 ≤ 16380
  unfolding record_place
  few_10 e = let r = refused_10 e in few (rec_ordered im) r.0 r.1

  few_17 : read_refusal m im ≡ 17 → record_place im 17 ≤ 16380
  unfolding record_place
  few_17 e = let r = refused_17 e in few (rec_allowed im) r.0 r.2

  few_18 : read_refusal m im ≡ 18 → record_place im 18 ≤ 16380
  unfolding record_place
  few_18 e = go (own_present im) refl
    where
      go : (b : Bool) → own_present im ≡ b → cond b (first_failing im (rec_owner_first im)) 0 ≤ 16380
      go true p =
          let r = refused_18 e in few (rec_owner_first im) r.0 (ap (λ (b : Bool). b && records_owned im) (sym p) ∙ r.3)
      go false p = omega arith

  pub place_few : record_place im (read_refusal m im) ≤ 16380
  place_few = go (read_refusal m im) refl (ℕ_discrete (read_refusal m im) 10) (ℕ_discrete (read_refusal m im) 17) (ℕ_discrete (read_refusal m im) 18)
    where
      at : (n k : ℕ) → n ≡ k → record_place im k ≤ 16380 → record_place im n ≤ 16380
      at n k e = subst (λ (n : ℕ). record_place im n ≤ 16380) (sym e)

      go : (n : ℕ) → read_refusal m im ≡ n → Dec (n ≡ 10) → Dec (n ≡ 17) → Dec (n ≡ 18) → record_place im n ≤ 16380
      go n e (yes a) q w = at n 10 a (few_10 (e ∙ a))
      go n e (no a) (yes b) w = at n 17 b (few_17 (e ∙ b))
      go n e (no a) (no b) (yes c) = at n 18 c (few_18 (e ∙ c))
      go n e (no a) (no b) (no c) = omega (arith, place_none im n a b c)
