-- One call: what is said of it, and the public call of its kind. Assumes nothing.
use Prim.Native.Nat.{ℕ, suc, ◌<◌}
use mathlib.Core.Path.{◌≡◌, refl, sym, ap, subst, ◌∙◌}
use mathlib.Core.Bool.{true, false}
use mathlib.Core.List.{List, [], ◌∷◌}
use native.Mathlib.Omega.{arith}
use lib.ListN.{get_or}
use borrow.Author.Tests.{ne_eqb}
use Rattle.std.specs.Prelude.{Result, Ok, Err, IsErr, IsErrAnd}
use Rattle.model.specs.Memory.{Memory, digits}
use Rattle.model.specs.Survey.{survey_counts}
use Rattle.model.specs.Refusals.{state_refusal}
use Rattle.model.specs.Calls.{Outcome, refused_at, refused, taken, survey_call}
use Rattle.model.specs.Run.{step}
use Rattle.model.proofs.Calls.{either_end}
use Rattle.model.proofs.Fields.{below_at, survey_few, survey_sound}
use Rattle.answers.specs.Numbers.{number_of}
use Rattle.answers.proofs.Errors.{numbered_from_one}
use Rattle.engine.specs.Outcomes.{leaves, writes}
use Rattle.calls.specs.declared.Call.{Call}
use Rattle.replay_survey.specs.Showable.{Showable}
use Rattle.replay_refusals.specs.declared.Refused.{Refused}
use Rattle.replay_words.specs.Said.{said}
use Rattle.replay_words.specs.declared.said.Said.{Said}
use Rattle.replay_calls.specs.Called.{called, out_after}
use Rattle.replay_calls.specs.Answered.{padded, listed, Played, playing, shown, said_of, Says}

-- ---- the words of an answer

-- of a call that left o
pub shown_of : (m : Memory) (o : Outcome) (words out fields : List ℕ) → writes m out fields ≡ o → words ≡ padded fields
    → record { memory = m; words = words } ≡ playing o
unfolding playing
shown_of m o words out fields e f = ap (λ (words : List ℕ). record { memory = m; words = words }) f ∙ ap playing e

pub out_of : (m : Memory) (o : Outcome) (out fields : List ℕ) → writes m out fields ≡ o → out ≡ o.out
out_of m o out fields e = ap (λ (o : Outcome). o.out) e

-- ---- a refusal that `?` hands on

false_true : false ≡ true → ⊥
false_true e = Prim.cc e

module _ (r : Result Said Refused) (x : Refused) (h : IsErr r × IsErrAnd r (λ (y : Refused). y ≡ x)) where
  handed : (r : Result Said Refused) → IsErr r × IsErrAnd r (λ (y : Refused). y ≡ x) → said_of r ≡ said_of (Err x)
  handed (Ok s) h = absurd (false_true h.0)
  handed (Err y) h = ap (λ (y : Refused). said_of (Err y)) h.1

  pub refused_shown : (m : Memory) (o : Outcome) (out fields : List ℕ) → writes m out fields ≡ o
      → padded (number_of x.refusal ∷ x.first ∷ x.second ∷ []) ≡ padded fields → shown m (said_of r) ≡ playing o
  refused_shown m o out fields e f = ap (shown m) (handed r h) ∙ shown_of m o (listed (said_of (Err x))) out fields e f

  pub refused_says : (d : ℕ) (file : List ℕ) (c : Call) → Says d file c (said_of r)
  unfolding said
  refused_says d file c = subst (Says d file c) (sym (handed r h)) (rw (ne_eqb (number_of x.refusal) 0 (numbered_from_one x.refusal)) refl)

-- ---- a survey

module _ (m : Memory) (failed : ℕ) where
  -- its answer fills the words
  survey_filled : padded (survey_call m failed).answer ≡ (survey_call m failed).answer
  unfolding survey_call survey_counts refused_at taken
  survey_filled =
      either_end (λ (o : Outcome). padded o.answer ≡ o.answer) (state_refusal m) (refused m [] 9) (taken m [] (survey_counts m.state m.tables failed))
      (λ nz. refl) (λ z. refl)

  module _ (counts : List ℕ) (e : leaves m (0 ∷ counts) ≡ survey_call m failed) where
    answer_is : 0 ∷ counts ≡ (survey_call m failed).answer
    answer_is = ap (λ (o : Outcome). o.answer) e

    pub counted : 0 ∷ counts ≡ padded (0 ∷ counts)
    counted = answer_is ∙ sym survey_filled ∙ ap padded (sym answer_is)

    -- the survey that was taken is of a sound state
    pub showable : Showable (digits m.state) counts
    showable =
        let zero : get_or (survey_call m failed).answer 0 0 ≡ 0 = ap (λ (l : List ℕ). get_or l 0 0) (sym answer_is) in
        record {
          digits = (survey_sound m failed zero).settings.digits_most;
          counts = λ k.
              let below : get_or (survey_call m failed).answer (suc k) 0 < 4097 = below_at 4097 (survey_call m failed).answer (omega arith) (survey_few m failed) (suc k) in
              let same : get_or counts k 0 ≡ get_or (survey_call m failed).answer (suc k) 0 = ap (λ (l : List ℕ). get_or l (suc k) 0) answer_is in
              omega (arith, below, same);
        }

-- ---- the call decides

module _ (m : Memory) (file out : List ℕ) (call c : Call) (e : call ≡ c) where
  pub plays : (p : Played) → p ≡ playing (step m (called file out c)) → p ≡ playing (step m (called file out call))
  plays p f = f ∙ ap (λ (c : Call). playing (step m (called file out c))) (sym e)

  pub output : (o : List ℕ) → o ≡ out_after m out c → o ≡ out_after m out call
  output o f = f ∙ ap (out_after m out) (sym e)

  pub speaks : (s : Said) → ((d : ℕ) (file : List ℕ) → Says d file c s) → (d : ℕ) → Says d file call s
  speaks s f d = subst (λ (c : Call). Says d file c s) (sym e) (f d file)

  pub speaks_file : (s : Said) → ((d : ℕ) → Says d file c s) → (d : ℕ) → Says d file call s
  speaks_file s f d = subst (λ (c : Call). Says d file c s) (sym e) (f d)

  pub speaks_digits : (s : Said) (d : ℕ) → ((file : List ℕ) → Says d file c s) → Says d file call s
  speaks_digits s d f = subst (λ (c : Call). Says d file c s) (sym e) (f file)
